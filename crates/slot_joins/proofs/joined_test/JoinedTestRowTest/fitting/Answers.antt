use Rattle.std.proofs.Common.{IfOk, IfSome, subst}
use Rattle.index_traits.specs.PartRows.{AreAllThatFit}
use Rattle.slot_joins.proofs.joined_test.JoinedTestRowTest.fitting.Goals as goal

pub returns : goal.returns
returns g c =
    subst (λ t. IfOk c.fitting.result (λ found. IfSome found (AreAllThatFit (g.T.RowTest.passes t) c.args.known.now c.args.slot c.args.row.now))) c.self.view_is
    c.fitting.ensures
