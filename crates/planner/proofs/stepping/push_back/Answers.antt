use Rattle.std.proofs.Common.{◌≡◌, ◌+◌, ◌-◌, ◌<◌, List, ◌++◌, length, map, take, arith, ap, ◌∙◌}
use Rattle.lorel_bound.specs.declared.plans.PlanStep.{PlanStep}
use Rattle.lorel_bound.specs.Bound.{range_tree}
use Rattle.lorel_bound.specs.Plans.{step_tree, back_steps}
use Rattle.planner.proofs.StepLaws.{back_more}
use Rattle.planner.proofs.stepping.push_back.Goals as goal

pub ranges-2-preserved : goal.ranges-2-preserved
ranges-2-preserved c =
    let some = c.ranges-2-test.true in
    let held = c.ranges-2.invariant.within in
    let place = c.ranges-2.left - 1 in
    let one : c.ranges-2.left ≡ place + 1 = omega (arith, some) in
    let low : place < length c.args.ranges.now = omega (arith, some, held) in
    record {
      within = omega (arith, held);
      steps = λ further.
          ap (λ (ss : List PlanStep). map step_tree ss ++ back_steps 0 (map range_tree (take place c.args.ranges.now)) further) c.in_ok-push.ensures.ok
          ∙ back_more c.ranges-2.steps c.in_ok-step.step c.args.ranges.now c.ranges-2.left place c.index-ranges-left.result
          (map step_tree c.args.steps.now ++ back_steps 0 (map range_tree c.args.ranges.now) further) further
          one low c.index-ranges-left.is c.in_ok-step.ensures (c.ranges-2.invariant.steps further);
    }
