use Rattle.std.proofs.Common.{◌≡◌, map, take, All}
use Rattle.lorel_bound.specs.Plans.{step_tree}
use Rattle.plan_ops.specs.inside.Ready.{ready_tree, HasFound}
use Rattle.plan_ops.proofs.ready_steps.ready_steps.Given as goal

abbrev pub invariant-steps : goal.invariant-steps
invariant-steps g l = record {
  trees : map ready_tree l.ready.items ≡ map step_tree (take l.step-index l.steps);
  found : All (HasFound l.labels (g.P.Paths.reaches l.paths)) l.ready.items;
}
