use Rattle.std.proofs.Common.{◌≡◌, All, take}
use Rattle.set_explorer.specs.PlannedNodes.{origin_set, IsOrigin}
use Rattle.set_explorer.specs.inside.Gains.{IsUnion, labels_in}
use Rattle.set_explorer.proofs.gains.united_targets.Given as goal

abbrev pub invariant-labels : goal.invariant-labels
invariant-labels l = record {
  labels : labels_in l.targets.items ≡ take l.label-index l.label-items;
  sets : All (λ target. IsUnion l.kept l.edges l.row target.0 (origin_set l.kept target.1)) l.targets.items;
  there : All (λ target. IsOrigin l.kept target.1) l.targets.items;
}
