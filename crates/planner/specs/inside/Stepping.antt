-- How steps are put together.
use Rattle.std.specs.Prelude.{ℕ, Bool, true, false}
use Rattle.lore_base.specs.Paths.{PathTree}
use Rattle.lorel_bound.specs.declared.bound.Start.{Start}
use Rattle.lorel_bound.specs.Plans.{StepTree, forward, guided_step}

-- the step along a range, where the guide is asked or not
abbrev pub step_by : Bool → Start → PathTree → ℕ → StepTree
step_by true = guided_step
step_by false = forward
