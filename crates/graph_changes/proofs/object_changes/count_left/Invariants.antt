use Rattle.std.proofs.Common.{◌≡◌, take, map, length}
use Rattle.edge_lists.specs.Objects.{object_of}
use Rattle.graph_changes.specs.Left.{not_dead}
use Rattle.graph_changes.proofs.object_changes.count_left.Given as goal

abbrev pub invariant-dead : goal.invariant-dead
invariant-dead l = l.count ≡ length (not_dead (take l.oid-index l.dead) (map object_of l.objects))
