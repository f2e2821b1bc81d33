use Rattle.std.proofs.lemmas.List.Elements.{All-more}
use Rattle.lore_base.specs.Walks.{oid_of}
use Rattle.lorel_eval.specs.inside.Sides.{HasSuch, ComparesWith}
use Rattle.lorel_eval.proofs.ScanLaws.{none_passes}
use Rattle.lorel_eval.proofs.comparisons.some_compares.Goals as goal

pub oids-preserved : goal.oids-preserved
oids-preserved g c =
    let objects = g.G.ValueOf.objects c.args.values.now in
    All-more (λ oid. HasSuch objects (ComparesWith objects c.args.op c.args.right.now) oid → ⊥) c.args.oids.now c.oids.oid-index (oid_of 0) c.oids-test.true c.oids.invariant
    (λ some. let is = c.if-object_compares.ensures.1 some in cc)

pub returns : goal.returns
returns g c = (
  λ is. cc,
  λ some.
      let objects = g.G.ValueOf.objects c.args.values.now in
      absurd (none_passes (HasSuch objects (ComparesWith objects c.args.op c.args.right.now)) c.args.oids.now c.oids.oid-index c.oids-test.false c.oids.invariant some),
)
