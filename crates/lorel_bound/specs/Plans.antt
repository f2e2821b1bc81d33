-- Plans: by which steps the rows of a bound select are found, from its names, from values, or by the guide (McHugh and
-- Widom 1999, top-down and bottom-up plans of path expressions).
use Rattle.std.specs.Prelude.{◌≡◌, ◌≢◌, ℕ, suc, ◌⊎◌, List, [], ◌∷◌, ◌++◌, map, take, drop, Option, Some, None, MatchOption, slice_get}
use Rattle.lore_base.specs.Paths.{PathTree, path_tree, step, seq, trees_of}
use Rattle.index_traits.specs.Entries.{IsProbed, IsFound}
use Rattle.lorel_bound.specs.Types.{Oid, Label, Value, Complex, Op, Plain, ValueEntry, Start, PlanKind, PlanStep, Plan}
use Rattle.lorel_bound.specs.Types.starts
use Rattle.lorel_bound.specs.Types.bound_starts
use Rattle.lorel_bound.specs.Types.plan_kinds
use Rattle.lorel_bound.specs.Types.plan_steps
use Rattle.lorel_bound.specs.Conditions.{CondOf, CondsOf, and, compare, at, constant, no_cond, cond}
use Rattle.lorel_bound.specs.Bound.{RangeTree, BoundPathTree, BoundTree}

-- Where a bottom plan can be.

-- what a comparison asks for: a path from a slot to objects that a label leads to, and how their values compare
pub record Probe : Type 0 where
  pub slot : ℕ
  pub rest : PathTree
  pub label : List ℕ
  pub op : Op
  pub value : Value

-- a comparison fits: it compares the end of a path from a range with an atom by `=`, `<`, `<=`, `>` or `>=`, and the
-- path's last part is a plain label
pub record IsFitting (condition : CondOf BoundPathTree) (probe : Probe) : Type 0 where
  pub compares : condition
      ≡ compare (at (record { start = bound_starts.Slot probe.slot; rest = probe.rest })) probe.op (constant probe.value)
  pub parts : List PathTree
  pub ends : probe.rest ≡ seq (trees_of (parts ++ step (Plain probe.label) ∷ []))
  pub probed : IsProbed probe.op
  pub atomic : probe.value ≢ Complex

-- the condition is no comparison that fits
abbrev pub DoesNotFit : CondOf BoundPathTree → Type 0
DoesNotFit condition = (probe : Probe) → IsFitting condition probe → ⊥

-- of some conditions the first that fits
abbrev pub IsFirstFitting : CondsOf BoundPathTree → Probe → Type 0
IsFirstFitting no_cond probe = ⊥
IsFirstFitting (cond first others) probe =
    IsFitting first probe ⊎ (DoesNotFit first × IsFirstFitting others probe)

-- the comparison that is taken: the whole condition where it fits, or the first member of its topmost `and` that does
abbrev pub IsTaken : CondOf BoundPathTree → Probe → Type 0
IsTaken (and members) probe = IsFirstFitting members probe
IsTaken condition probe = IsFitting condition probe

-- each range starts at the one before it, and the first at this slot
abbrev pub FollowOn : ℕ → List RangeTree → Type 0
FollowOn slot [] = Unit {0}
FollowOn slot (range ∷ ranges) = (range.start ≡ starts.Slot slot) × FollowOn (suc slot) ranges

-- the first range starts at the named object, and each further one at the one before it
abbrev pub IsChain : Oid → List RangeTree → Type 0
IsChain named [] = ⊥
IsChain named (first ∷ others) = (first.start ≡ starts.Named named) × FollowOn 0 others

-- a bottom plan can be: the ranges are a chain from a name, and some comparison of the condition is taken
pub record CanBeBottom (bound : BoundTree) (named : Oid) (probe : Probe) : Type 0 where
  pub chain : IsChain named bound.ranges
  pub condition : CondOf BoundPathTree
  pub is : bound.cond ≡ Some condition
  pub taken : IsTaken condition probe

-- it can't be
abbrev pub CannotBeBottom : BoundTree → Type 0
CannotBeBottom bound = (named : Oid) (probe : Probe) → CanBeBottom bound named probe → ⊥

-- the path from the name to the range that the comparison starts at
abbrev pub path_to : BoundTree → Probe → PathTree
path_to bound probe = seq (trees_of (map (λ range. range.path) (take (suc probe.slot) bound.ranges)))

-- the label that has the text; None where none has it
abbrev pub IsLabelOf : List (List ℕ) → List ℕ → Option Label → Type 0
IsLabelOf labels text label = MatchOption label
    ((own : Label) → slice_get labels own.0 ≢ Some text)
    (λ own. slice_get labels own.0 ≡ Some text)

-- the object has an entry of the label whose value compares so; there is none without a label
abbrev pub IsCandidate : List ValueEntry → Option Label → Op → Value → Oid → Type 0
IsCandidate entries label op value oid = MatchOption label ⊥ (λ own. IsFound entries own op value oid)

-- Steps.

-- a step of a plan as plain data
pub data StepTree : Type 0 where
  forward : (start : Start) (path : PathTree) (slot : ℕ) → StepTree
  from_guide : (named : Oid) (path : PathTree) (slot : ℕ) → StepTree
  from_value : (label : Option Label) (op : Op) (value : Value) (rest : PathTree) (slot : ℕ) → StepTree
  backward : (child : ℕ) (path : PathTree) (parent : ℕ) → StepTree
  check : (child : ℕ) (path : PathTree) (named : Oid) → StepTree
  filter : StepTree

-- the plain data of the program's steps
abbrev pub step_tree : PlanStep → StepTree
step_tree (plan_steps.Forward start path slot) = forward start (path_tree path) slot
step_tree (plan_steps.FromGuide named path slot) = from_guide named (path_tree path) slot
step_tree (plan_steps.FromValue label op value rest slot) = from_value label op value (path_tree rest) slot
step_tree (plan_steps.Backward child path parent) = backward child (path_tree path) parent
step_tree (plan_steps.Check child path named) = check child (path_tree path) named
step_tree plan_steps.Filter = filter

abbrev pub steps_of : Plan → List StepTree
steps_of plan = map step_tree plan.steps

-- the condition, if there is one, is tested last
abbrev pub tests : Option (CondOf BoundPathTree) → List StepTree
tests None = []
tests (Some condition) = filter ∷ []

-- the steps along ranges in order, the first of which fills this slot, in front of further steps
abbrev pub along : (Start → PathTree → ℕ → StepTree) → ℕ → List RangeTree → List StepTree → List StepTree
along step_of slot [] further = further
along step_of slot (range ∷ ranges) further =
    step_of range.start range.path slot ∷ along step_of (suc slot) ranges further

-- in a guided plan the guide tells what is reached from a name
abbrev pub guided_step : Start → PathTree → ℕ → StepTree
guided_step (starts.Named named) path slot = from_guide named path slot
guided_step (starts.Slot own) path slot = forward (starts.Slot own) path slot

-- against a chain of ranges behind this slot, from the last of them back to it, in front of further steps
abbrev pub back_steps : ℕ → List RangeTree → List StepTree → List StepTree
back_steps slot [] further = further
back_steps slot (range ∷ ranges) further =
    back_steps (suc slot) ranges (backward (suc slot) range.path slot ∷ further)

-- a plan from the bottom: what the comparison asks for, back from there to the first range, which is checked against
-- the name, and then the ranges that are left
abbrev pub bottom_steps : Oid → Probe → Option Label → List RangeTree → List StepTree → List StepTree
bottom_steps named probe label [] further = further
bottom_steps named probe label (first ∷ others) further =
    from_value label probe.op probe.value probe.rest probe.slot
    ∷ back_steps 0 (take probe.slot others)
    (check 0 first.path named ∷ along forward (suc probe.slot) (drop probe.slot others) further)

-- these are the steps of a bottom plan, over this table of labels
pub record AreBottomSteps (labels : List (List ℕ)) (bound : BoundTree) (steps : List StepTree) : Type 0 where
  pub named : Oid
  pub probe : Probe
  pub label : Option Label
  pub can : CanBeBottom bound named probe
  pub labelled : IsLabelOf labels probe.label label
  pub are : steps ≡ bottom_steps named probe label bound.ranges (tests bound.cond)

-- these are the steps of a plan of this kind for a bound select, over this table of labels
abbrev pub AreStepsOf : List (List ℕ) → BoundTree → PlanKind → List StepTree → Type 0
AreStepsOf labels bound plan_kinds.Top steps = steps ≡ along forward 0 bound.ranges (tests bound.cond)
AreStepsOf labels bound plan_kinds.Guided steps = steps ≡ along guided_step 0 bound.ranges (tests bound.cond)
AreStepsOf labels bound plan_kinds.Bottom steps = AreBottomSteps labels bound steps

-- the plan belongs to the bound select
abbrev pub IsPlanOf : List (List ℕ) → BoundTree → Plan → Type 0
IsPlanOf labels bound plan = AreStepsOf labels bound plan.kind (steps_of plan)
