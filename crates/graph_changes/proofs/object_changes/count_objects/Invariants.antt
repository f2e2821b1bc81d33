use Rattle.std.proofs.Common.{◌≡◌, ◌+◌, ◌≤◌, take, map, length}
use Rattle.edge_lists.specs.Objects.{object_of}
use Rattle.graph_changes.specs.Puts.{with_objects}
use Rattle.graph_changes.specs.Left.{not_dead}
use Rattle.graph_changes.proofs.object_changes.count_objects.Given as goal

abbrev pub invariant-given : goal.invariant-given
invariant-given l = record {
  is : l.count ≡ length (with_objects (not_dead l.dead (map object_of l.objects)) (take l.object-index l.given));
  few : l.count ≤ length l.objects + l.object-index;
}
