use Rattle.index_laws.proofs.ChangedEntries.{entries_go_with_the_last_edge}
use Rattle.index_laws.proofs.laws.entries_go_with_the_last_edge.Goals as goal

pub returns : goal.returns
returns c = entries_go_with_the_last_edge
