use Rattle.std.specs.Option.{option_copied}
use Rattle.index_eval.proofs.TestLaws.{served}
use Rattle.index_eval.proofs.indexed_test.IndexedTest.for_hints.Goals as goal

pub invariant_of-result : goal.invariant_of-result
invariant_of-result g c =
    let made = c.in_ok-test.ensures in (
      served c.in_ok-test.test c.args.labels.now (g.G.Adjacent.edges c.args.graph.now) (g.G.ValueOf.objects c.args.graph.now) (g.K.Links.edges c.args.links.now)
          (g.V.Values.entries c.args.values.now) (option_copied c.args.cond) c.in_ok-clues.clues.items made.labels made.edges made.objects made.cond
          c.requires.indexes c.in_ok-clues.ensures,
      tt,
    )
