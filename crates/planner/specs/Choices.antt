-- Which plan is chosen for a bound select: by the mode, and by how many objects a search would begin with.
use Rattle.std.specs.Prelude.{◌≡◌, ℕ, ◌⊎◌, Bool, false, nat_lt, nat_le, if◌then◌else◌, List, Option, Some, None, is_some}
use Rattle.lore_base.specs.Paths.{PathTree}
use Rattle.index_traits.specs.Counts.{IsCount}
use Rattle.lorel_bound.specs.Bound.{BoundTree}
use Rattle.lorel_bound.specs.Plans.{Probe, CanBeBottom, CannotBeBottom, path_to, IsLabelOf, IsCandidate}
use Rattle.planner.specs.Types.{Oid, Label, Mode, ValueEntry, PlanKind}
use Rattle.planner.specs.Types.modes
use Rattle.planner.specs.Types.plan_kinds

-- the number of objects that pass, where one is given
abbrev pub IsGivenCount : (Oid → Type 0) → Option ℕ → Type 0
IsGivenCount Passes given = (count : ℕ) × (given ≡ Some count) × IsCount Passes count

-- what is counted for a bottom plan, over a table of labels, value entries, and what paths reach from named objects: the
-- objects that the comparison asks for, and those that the range which it starts at reaches from the name
pub record AreCounted (labels : List (List ℕ)) (entries : List ValueEntry) (Reached : PathTree → Oid → Oid → Type 0)
    (bound : BoundTree) (candidates found : Option ℕ) : Type 0 where
  pub named : Oid
  pub probe : Probe
  pub can : CanBeBottom bound named probe
  pub label : Option Label
  pub labelled : IsLabelOf labels probe.label label
  pub asked : IsGivenCount (IsCandidate entries label probe.op probe.value) candidates
  pub reached : IsGivenCount (Reached (path_to bound probe) named) found

-- these are counted where a bottom plan can be, and nothing is where it can't
abbrev pub AreCounts :
    List (List ℕ) → List ValueEntry → (PathTree → Oid → Oid → Type 0) → BoundTree → Option ℕ → Option ℕ → Type 0
AreCounts labels entries Reached bound candidates found =
    AreCounted labels entries Reached bound candidates found
    ⊎ (CannotBeBottom bound × (candidates ≡ None) × (found ≡ None))

-- fewer objects are asked for than are reached
abbrev pub is_fewer : Option ℕ → Option ℕ → Bool
is_fewer (Some candidates) (Some found) = nat_lt candidates found
is_fewer _ _ = false

-- the kind of plan by the mode, these counts, and the numbers of nodes of the guide and of objects
abbrev pub kind_by : Mode → Option ℕ → Option ℕ → ℕ → ℕ → PlanKind
kind_by modes.Top candidates found nodes objects = plan_kinds.Top
kind_by modes.Bottom candidates found nodes objects =
    if is_some candidates then plan_kinds.Bottom else plan_kinds.Top
kind_by modes.Guided candidates found nodes objects = plan_kinds.Guided
kind_by modes.Auto candidates found nodes objects =
    if is_fewer candidates found then plan_kinds.Bottom
    else (if nat_le nodes objects then plan_kinds.Guided else plan_kinds.Top)
