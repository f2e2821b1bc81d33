use Rattle.std.proofs.Common.{IsTrue, IfOk, subst}
use Rattle.index_traits.specs.PartRows.{NonePasses}
use Rattle.slot_joins.proofs.joined_test.JoinedTestRowTest.rules_out.Goals as goal

pub returns : goal.returns
returns g c =
    subst (λ t. IfOk c.rules_out.result (λ answer. IsTrue answer → NonePasses (g.T.RowTest.passes t) c.args.known.now c.args.row.now)) c.self.view_is
    c.rules_out.ensures
