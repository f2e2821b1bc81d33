use Rattle.index_laws.proofs.SortedEntries.{links_exist}
use Rattle.index_laws.proofs.laws.links_exist.Goals as goal

pub returns : goal.returns
returns c = links_exist
