use Rattle.std.proofs.Common.{◌≡◌, map, take}
use Rattle.set_explorer.specs.Types.{Kept}
use Rattle.set_explorer.proofs.explore.kept_targets.Given as goal

abbrev pub invariant-edges : goal.invariant-edges
invariant-edges l = l.targets.items ≡ map (λ edge. (edge.0, Kept edge.1)) (take l.edge-index l.edges)
