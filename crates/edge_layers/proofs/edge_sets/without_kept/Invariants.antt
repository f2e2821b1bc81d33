use Rattle.std.proofs.Common.{◌≡◌, ◌++◌, drop, not}
use Rattle.std.specs.List.{filter}
use Rattle.edge_layers.specs.EdgeTests.{is_listed}
use Rattle.edge_layers.proofs.edge_sets.without_kept.Given as goal

abbrev pub invariant-edges : goal.invariant-edges
invariant-edges l =
    l.fresh ++ filter (λ edge. not (is_listed l.fn.kept edge)) (drop l.edge-index l.fn.more)
    ≡ filter (λ edge. not (is_listed l.fn.kept edge)) l.fn.more
