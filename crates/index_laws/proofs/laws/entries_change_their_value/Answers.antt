use Rattle.index_laws.proofs.ChangedEntries.{entries_change_their_value}
use Rattle.index_laws.proofs.laws.entries_change_their_value.Goals as goal

pub returns : goal.returns
returns c = entries_change_their_value
