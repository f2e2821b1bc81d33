use Rattle.lorel_bound.specs.Bound.{bound_cond}
use Rattle.slot_joins.proofs.JoinLaws.{joined_for}
use Rattle.slot_joins.proofs.joined_test.JoinedTest.joined.Goals as goal

pub invariant_of-result : goal.invariant_of-result
invariant_of-result g c =
    let indexed = c.args.indexed.now in
    joined_for indexed.labels.now (g.G.Adjacent.edges indexed.graph.now) (g.G.ValueOf.objects indexed.graph.now) (g.T.RowTest.passes c.args.test)
    (bound_cond c.args.cond.now) c.in_ok-joins.joins.items c.requires.passes c.in_ok-joins.ensures
