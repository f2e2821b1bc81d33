use Rattle.slot_joins.proofs.JoinLaws.{none_for}
use Rattle.slot_joins.proofs.joined_test.JoinedTest.alone.Goals as goal

pub invariant_of-result : goal.invariant_of-result
invariant_of-result g c =
    none_for (g.G.Adjacent.edges c.args.graph.now) (g.G.ValueOf.objects c.args.graph.now) (g.T.RowTest.passes c.args.test) c.no_joins.result.items c.no_joins.ensures
