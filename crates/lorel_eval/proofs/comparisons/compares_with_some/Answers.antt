use Rattle.std.proofs.lemmas.List.Elements.{All-more}
use Rattle.lore_base.specs.Comparisons.{Compares}
use Rattle.lore_base.specs.Walks.{oid_of}
use Rattle.lorel_eval.specs.inside.Sides.{HasSuch}
use Rattle.lorel_eval.proofs.ScanLaws.{none_passes}
use Rattle.lorel_eval.proofs.comparisons.compares_with_some.Goals as goal

pub oids-preserved : goal.oids-preserved
oids-preserved g c =
    All-more (λ oid. HasSuch (g.G.ValueOf.objects c.args.values.now) (Compares c.args.value.now c.args.op) oid → ⊥) c.args.oids.now c.oids.oid-index (oid_of 0) c.oids-test.true c.oids.invariant
    (λ some. let is = c.if-compares_with_object.ensures.1 some in cc)

pub returns : goal.returns
returns g c = (
  λ is. cc,
  λ some. absurd (none_passes (HasSuch (g.G.ValueOf.objects c.args.values.now) (Compares c.args.value.now c.args.op)) c.args.oids.now c.oids.oid-index c.oids-test.false c.oids.invariant some),
)
