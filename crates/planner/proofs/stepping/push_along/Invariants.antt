use Rattle.std.proofs.Common.{◌≡◌, ◌+◌, List, ◌++◌, map, drop}
use Rattle.lorel_bound.specs.Bound.{range_tree}
use Rattle.lorel_bound.specs.Plans.{StepTree, step_tree, along}
use Rattle.planner.specs.inside.Stepping.{step_by}
use Rattle.planner.proofs.stepping.push_along.Given as goal

abbrev pub invariant-ranges-2 : goal.invariant-ranges-2
invariant-ranges-2 l = record {
  next : l.next ≡ l.slot + l.range-index;
  steps : (further : List StepTree) → map step_tree l.steps ++ along (step_by l.guided) l.next (map range_tree (drop l.range-index l.ranges)) further
      ≡ map step_tree l.fn.steps ++ along (step_by l.guided) l.slot (map range_tree l.ranges) further;
}
