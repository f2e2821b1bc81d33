use Rattle.std.proofs.Common.{◌≡◌}
use Rattle.std.specs.List.{AllWithin}
use Rattle.edge_layers.proofs.edge_runs.run_length.Given as goal

abbrev pub invariant-run : goal.invariant-run
invariant-run l = AllWithin (λ edge. edge.parent.0 ≡ l.oid.0) l.edges 0 l.place
