use Rattle.std.proofs.Common.{◌≡◌, List, [], ◌∷◌, ◌++◌, subst, sym, true≢false, ◌∙◌}
use Rattle.std.proofs.lemmas.List.{take_all}
use Rattle.index_traits.proofs.ObjectLaws.{same_oid}
use Rattle.value_changes.specs.Types.{Oid, Value}
use Rattle.value_changes.specs.Reads.{IsOldValued}
use Rattle.value_changes.specs.inside.Sets.{AreAdded}
use Rattle.value_changes.specs.inside.Touched.{oid_cmp, IsOldGiven}
use Rattle.value_changes.proofs.AddedLaws.{added-none, added-more, added-less}
use Rattle.value_changes.proofs.SortedLaws.{set-sorted}
use Rattle.value_changes.proofs.TouchedLaws.{old-given}
use Rattle.value_changes.proofs.touched.given_objects.Goals as goal
use Rattle.value_changes.proofs.touched.given_objects.Goals.{then-is_old_valued+in_ok-push, else-is_old_valued}

pub given-init : goal.given-init
given-init g c = rw c.new-oids.ensures (added-none (λ (object : Oid × Value). object.0)
    (IsOldValued (g.V.ValueOf.objects c.args.before.now) (g.W.ValueOf.objects c.args.after.now)) [])

pub given-preserved : goal.given-preserved
given-preserved g c =
    let first = λ (object : Oid × Value). object.0 in
    let Passes = IsOldValued (g.V.ValueOf.objects c.args.before.now) (g.W.ValueOf.objects c.args.after.now) in
    let own = λ (object : Oid × Value). Passes object.0 in
    let here = c.object-item.is in
    elim c.if-is_old_valued.branch [
      | then-is_old_valued+in_ok-push w ↦ rw w.oids-is
          (added-more first Passes c.args.given.now [] c.given.oids c.given.object-index _ c.given-test.true c.given.invariant
          w.push.new.self
          (subst (λ (object : Oid × Value). w.push.new.self ≡ c.given.oids ++ object.0 ∷ []) here w.in_ok-push.ensures.ok)
          (subst own here (c.is_old_valued.ensures.0 w.if-is_old_valued.true)))
      | else-is_old_valued w ↦ rw w.oids-is
          (added-less first Passes c.args.given.now [] c.given.oids c.given.object-index _ c.given-test.true c.given.invariant
          (λ has. true≢false (sym (c.is_old_valued.ensures.1 (subst own (sym here) has)) ∙ w.if-is_old_valued.false)))
    ]

pub returns : goal.returns
returns g c =
    let objects = g.V.ValueOf.objects c.args.before.now in
    let objects_then = g.W.ValueOf.objects c.args.after.now in
    let adds = subst
    (λ (given : List (Oid × Value)). AreAdded (λ (object : Oid × Value). object.0)
    (IsOldValued objects objects_then) given [] c.given.oids)
    (take_all c.given.object-index c.args.given.now c.given-test.false) c.given.invariant in
    set-sorted oid_cmp (IsOldGiven objects objects_then c.args.given.now) c.given.oids c.sort_set.new.self
    c.sort_set.ensures.ascend (c.sort_set.ensures.members same_oid)
    (old-given objects objects_then c.args.given.now c.given.oids adds)
