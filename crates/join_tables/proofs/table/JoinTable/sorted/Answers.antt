use Rattle.join_tables.proofs.RunLaws.{same_row}
use Rattle.join_tables.proofs.table.JoinTable.sorted.Goals as goal

pub invariant_of-result : goal.invariant_of-result
invariant_of-result c = c.sort_set.ensures.ascend

pub returns : goal.returns
returns c = c.sort_set.ensures.members same_row
