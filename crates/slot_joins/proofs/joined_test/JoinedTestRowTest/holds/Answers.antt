use Rattle.std.proofs.Common.{◌↔◌, IsTrue, IfOk, subst}
use Rattle.slot_joins.proofs.joined_test.JoinedTestRowTest.holds.Goals as goal

pub returns : goal.returns
returns g c = subst (λ t. IfOk c.holds.result (λ answer. IsTrue answer ↔ g.T.RowTest.passes t c.args.row.now)) c.self.view_is c.holds.ensures
