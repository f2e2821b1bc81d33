use Rattle.updates.proofs.RowLaws.{child_is}
use Rattle.updates.proofs.row_tests.is_parent.Goals as goal

pub returns : goal.returns
returns c = child_is c.has_edge.result c.args.graph.now.graph.edges c.args.oid c.has_edge.ensures
