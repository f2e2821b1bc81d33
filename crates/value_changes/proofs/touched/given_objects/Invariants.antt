use Rattle.std.proofs.Common.{[], take}
use Rattle.value_changes.specs.Types.{Oid, Value}
use Rattle.value_changes.specs.Reads.{IsOldValued}
use Rattle.value_changes.specs.inside.Sets.{AreAdded}
use Rattle.value_changes.proofs.touched.given_objects.Given as goal

abbrev pub invariant-given : goal.invariant-given
invariant-given g l =
    AreAdded (λ (object : Oid × Value). object.0)
    (IsOldValued (g.V.ValueOf.objects l.before) (g.W.ValueOf.objects l.after)) (take l.object-index l.given) [] l.oids
