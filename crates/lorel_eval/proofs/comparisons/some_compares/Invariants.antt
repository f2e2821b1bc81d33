use Rattle.std.proofs.Common.{take, All}
use Rattle.lorel_eval.specs.inside.Sides.{HasSuch, ComparesWith}
use Rattle.lorel_eval.proofs.comparisons.some_compares.Given as goal

abbrev pub invariant-oids : goal.invariant-oids
invariant-oids g l =
    let objects = g.G.ValueOf.objects l.values in
    All (λ oid. HasSuch objects (ComparesWith objects l.op l.right) oid → ⊥) (take l.oid-index l.oids)
