use Rattle.std.proofs.Common.{List, IfOk, IfSome, subst}
use Rattle.index_traits.specs.PartRows.{AreAllThatFit}
use Rattle.slot_joins.specs.declared.joins.Join.{Join}
use Rattle.slot_joins.specs.inside.Joins.{IsToldByJoin}
use Rattle.slot_joins.proofs.JoinLaws.{fits_joined}
use Rattle.slot_joins.proofs.joined_test.JoinedTest.fitting_by_tables.Goals as goal

pub returns : goal.returns
returns g c =
    let inside = c.self.inside in
    let edges = g.G.Adjacent.edges inside.graph.now in
    let objects = g.G.ValueOf.objects inside.graph.now in
    subst (λ t. IfOk c.fitting_by.result (λ found. IfSome found (AreAllThatFit (g.T.RowTest.passes t) c.args.known.now c.args.slot c.args.row.now))) c.self.view_is
    (fits_joined edges objects (g.T.RowTest.passes inside.test) inside.joins.items c.args.known.now c.args.slot c.args.row.now c.fitting_by.result c.self.invariant
    (subst (λ (l : List Join). IfOk c.fitting_by.result (λ found. IfSome found (IsToldByJoin edges objects l c.args.known.now c.args.slot c.args.row.now)))
    c.as_slice.ensures.value c.fitting_by.ensures))
