use Rattle.index_laws.proofs.ChangedEntries.{entries_go_with_a_complex_value}
use Rattle.index_laws.proofs.laws.entries_go_with_a_complex_value.Goals as goal

pub returns : goal.returns
returns c = entries_go_with_a_complex_value
