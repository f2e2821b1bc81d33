use Rattle.index_laws.proofs.SortedEntries.{entries_are_determined}
use Rattle.index_laws.proofs.laws.entries_are_determined.Goals as goal

pub returns : goal.returns
returns c = entries_are_determined
