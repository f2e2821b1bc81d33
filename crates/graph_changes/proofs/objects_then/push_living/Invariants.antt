use Rattle.std.proofs.Common.{◌≡◌, ◌++◌, drop}
use Rattle.graph_changes.specs.Left.{not_dead}
use Rattle.graph_changes.proofs.objects_then.push_living.Given as goal

abbrev pub invariant-objects : goal.invariant-objects
invariant-objects l = l.left ++ not_dead l.fn.dead (drop l.object-index l.fn.objects) ≡ l.fn.left ++ not_dead l.fn.dead l.fn.objects
