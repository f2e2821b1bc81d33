use Rattle.std.proofs.Common.{take}
use Rattle.graph_changes.specs.Given.{AreDropped}
use Rattle.graph_changes.proofs.object_changes.drop_each.Given as goal

abbrev pub invariant-dead : goal.invariant-dead
invariant-dead l = AreDropped (take l.oid-index l.dead) l.fn.objects.items l.objects.items
