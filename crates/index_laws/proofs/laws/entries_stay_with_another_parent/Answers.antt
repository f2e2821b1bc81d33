use Rattle.index_laws.proofs.ChangedEntries.{entries_stay_with_another_parent}
use Rattle.index_laws.proofs.laws.entries_stay_with_another_parent.Goals as goal

pub returns : goal.returns
returns c = entries_stay_with_another_parent
