use Rattle.index_laws.proofs.ChangedEntries.{entries_lose_at_most_one}
use Rattle.index_laws.proofs.laws.entries_lose_at_most_one.Goals as goal

pub returns : goal.returns
returns c = entries_lose_at_most_one
