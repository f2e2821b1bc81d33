use Rattle.index_laws.proofs.SortedEntries.{links_are_determined}
use Rattle.index_laws.proofs.laws.links_are_determined.Goals as goal

pub returns : goal.returns
returns c = links_are_determined
