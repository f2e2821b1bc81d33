use Rattle.index_laws.proofs.ChangedEntries.{entries_gain_at_most_one}
use Rattle.index_laws.proofs.laws.entries_gain_at_most_one.Goals as goal

pub returns : goal.returns
returns c = entries_gain_at_most_one
