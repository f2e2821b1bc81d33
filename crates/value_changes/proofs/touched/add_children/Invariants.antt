use Rattle.std.proofs.Common.{take}
use Rattle.value_changes.specs.Reads.{IsOldValued}
use Rattle.value_changes.specs.inside.Sets.{AreAdded}
use Rattle.value_changes.specs.inside.Touched.{child_of}
use Rattle.value_changes.proofs.touched.add_children.Given as goal

abbrev pub invariant-edges : goal.invariant-edges
invariant-edges g l =
    AreAdded child_of (IsOldValued (g.V.ValueOf.objects l.before) (g.W.ValueOf.objects l.after))
    (take l.edge-index l.edges) l.fn.oids l.oids
