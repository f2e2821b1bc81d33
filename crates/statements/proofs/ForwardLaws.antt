-- A plan from names walks forward and tests, and nothing else: it fits whatever links, values and paths there are.
use Rattle.std.proofs.Common.{◌≡◌, ℕ, suc, List, [], ◌∷◌, All, Option, Some, None, subst, sym}
use Rattle.std.proofs.lemmas.List.Elements.{All-nil, All-cons}
use Rattle.lorel_bound.specs.Bound.{RangeTree, BoundPathTree, BoundTree}
use Rattle.lorel_bound.specs.Conditions.{CondOf}
use Rattle.lorel_bound.specs.Plans.{StepTree, forward, filter, along, tests, steps_of, AreStepsOf, IsPlanOf}
use Rattle.plan_ops.specs.Types.{Plan}
use Rattle.plan_ops.specs.Rows.{WalksOrTests}
use Rattle.statements.specs.Types.{PlanKind}
use Rattle.statements.specs.Types.plan_kinds

tests_walk : (condition : Option (CondOf BoundPathTree)) → All WalksOrTests (tests condition)
tests_walk None = All-nil WalksOrTests
tests_walk (Some condition) = All-cons WalksOrTests filter [] tt (All-nil WalksOrTests)

along_walks : (slot : ℕ) (ranges : List RangeTree) (further : List StepTree) → All WalksOrTests further → All WalksOrTests (along forward slot ranges further)
along_walks slot [] further h = h
along_walks slot (range ∷ ranges) further h =
    All-cons WalksOrTests (forward range.start range.path slot) (along forward (suc slot) ranges further) tt (along_walks (suc slot) ranges further h)

pub forward_walks : (labels : List (List ℕ)) (bound : BoundTree) (plan : Plan) → plan.kind ≡ plan_kinds.Top → IsPlanOf labels bound plan
    → All WalksOrTests (steps_of plan)
forward_walks labels bound plan kind planned =
    subst (All WalksOrTests) (sym (subst (λ (k : PlanKind). AreStepsOf labels bound k (steps_of plan)) kind planned))
    (along_walks 0 bound.ranges (tests bound.cond) (tests_walk bound.cond))
