use Rattle.index_laws.proofs.SortedEntries.{entries_exist}
use Rattle.index_laws.proofs.laws.entries_exist.Goals as goal

pub returns : goal.returns
returns c = entries_exist
