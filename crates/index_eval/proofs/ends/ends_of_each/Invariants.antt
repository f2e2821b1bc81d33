use Rattle.std.proofs.Common.{take}
use Rattle.index_eval.specs.inside.Ends.{TakesEndsOf}
use Rattle.index_eval.proofs.ends.ends_of_each.Given as goal

abbrev pub invariant-found : goal.invariant-found
invariant-found g l =
    TakesEndsOf (g.G.ValueOf.objects l.readers.graph.now) (g.V.Values.entries l.readers.values.now) l.comparison (take l.oid-index l.found) l.ends
