use Rattle.index_eval.proofs.TestLaws.{served_plain}
use Rattle.index_eval.proofs.indexed_test.IndexedTest.plain.Goals as goal

pub invariant_of-result : goal.invariant_of-result
invariant_of-result g c =
    let made = c.in_ok-test.ensures in (
      served_plain c.in_ok-test.test c.args.labels.now (g.G.Adjacent.edges c.args.graph.now) (g.G.ValueOf.objects c.args.graph.now) (g.K.Links.edges c.args.links.now)
          (g.V.Values.entries c.args.values.now) c.new.result.items made.labels made.edges made.objects c.new.ensures.items,
      tt,
    )
