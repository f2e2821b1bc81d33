use Rattle.index_laws.proofs.ChangedEntries.{entries_of_others_stay}
use Rattle.index_laws.proofs.laws.entries_of_others_stay.Goals as goal

pub returns : goal.returns
returns c = entries_of_others_stay
