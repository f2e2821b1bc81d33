use Rattle.std.proofs.Common.{◌≡◌, take}
use Rattle.kept_history.proofs.objects.all_objects.Given as goal

abbrev pub invariant-places : goal.invariant-places
invariant-places l = l.objects ≡ take l.place l.graph.graph.objects
