use Rattle.std.proofs.Common.{◌≡◌, ◌≤◌, List, ◌++◌, length, map, take}
use Rattle.lorel_bound.specs.Bound.{range_tree}
use Rattle.lorel_bound.specs.Plans.{StepTree, step_tree, back_steps}
use Rattle.planner.proofs.stepping.push_back.Given as goal

abbrev pub invariant-ranges-2 : goal.invariant-ranges-2
invariant-ranges-2 l = record {
  within : l.left ≤ length l.ranges;
  steps : (further : List StepTree) → map step_tree l.steps ++ back_steps 0 (map range_tree (take l.left l.ranges)) further
      ≡ map step_tree l.fn.steps ++ back_steps 0 (map range_tree l.ranges) further;
}

abbrev pub decreases-ranges-2 : goal.decreases-ranges-2
decreases-ranges-2 l = l.left
