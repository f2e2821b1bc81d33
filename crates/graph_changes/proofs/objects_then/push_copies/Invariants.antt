use Rattle.std.proofs.Common.{◌≡◌, ◌++◌, drop}
use Rattle.graph_changes.proofs.objects_then.push_copies.Given as goal

abbrev pub invariant-objects : goal.invariant-objects
invariant-objects l = l.copy.items ++ drop l.object-index l.objects ≡ l.fn.copy.items ++ l.fn.objects
