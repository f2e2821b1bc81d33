use Rattle.std.proofs.Common.{◌++◌, ap, subst, ◌∙◌, List}
use Rattle.index_traits.proofs.ObjectLaws.{same_oid}
use Rattle.value_changes.specs.Types.{Oid}
use Rattle.value_changes.specs.Reads.{IsOldValued}
use Rattle.value_changes.specs.inside.Sets.{AreAdded}
use Rattle.value_changes.specs.inside.Touched.{oid_cmp, child_of, IsOldTouched}
use Rattle.value_changes.proofs.SortedLaws.{set-sorted}
use Rattle.value_changes.proofs.TouchedLaws.{old-touched}
use Rattle.value_changes.proofs.touched.touched_objects.Goals as goal

pub returns : goal.returns
returns g c =
    let objects = g.V.ValueOf.objects c.args.before.now in
    let objects_then = g.W.ValueOf.objects c.args.after.now in
    let lost = c.args.lost.now in
    let fresh = c.args.fresh.now in
    let oids = c.args.given.now in
    let start = c.in_ok-append.ensures.ok ∙ ap (λ (l : List Oid). l ++ oids) c.new-oids.ensures in
    let adds = subst (λ (old : List Oid). AreAdded child_of (IsOldValued objects objects_then) lost old c.add_children.new.oids)
    start c.in_ok-add_children.ensures in
    let sorted = c.in_ok-sorted.ensures in
    set-sorted oid_cmp (IsOldTouched objects objects_then lost fresh oids) c.add_children-2.new.oids c.in_ok-sorted.sorted
    sorted.ascend (sorted.members same_oid)
    (old-touched objects objects_then lost fresh oids c.add_children.new.oids c.add_children-2.new.oids adds
    c.in_ok-add_children-2.ensures)
