use Rattle.std.proofs.Common.{take, All}
use Rattle.lore_base.specs.Comparisons.{Compares}
use Rattle.lorel_eval.specs.inside.Sides.{HasSuch}
use Rattle.lorel_eval.proofs.comparisons.compares_with_some.Given as goal

abbrev pub invariant-oids : goal.invariant-oids
invariant-oids g l =
    All (λ oid. HasSuch (g.G.ValueOf.objects l.values) (Compares l.value l.op) oid → ⊥) (take l.oid-index l.oids)
