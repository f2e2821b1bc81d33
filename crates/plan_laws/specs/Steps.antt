-- What the steps of a plan ask. A step is a constraint on the finished row, and most fill one of its slots; so the order
-- of steps decides how rows are found, and not which.
use Rattle.std.specs.Prelude.{◌≡◌, ◌≢◌, ◌↔◌, ℕ, ◌-◌, List, ◌++◌, length, replicate, Option, Some, None, MatchOption, All, Contains, slice_get}
use Rattle.lore_base.specs.Walks.{oid_of}
use Rattle.lore_base.specs.Paths.{PathTree, Reaches}
use Rattle.index_traits.specs.Entries.{AreValueEntries}
use Rattle.lorel_bound.specs.Bound.{RangeTree, BoundTree}
use Rattle.lorel_bound.specs.SlotRows.{StartsAt, AreFilled, HoldsOver}
use Rattle.lorel_bound.specs.Plans.{StepTree, forward, from_guide, from_value, backward, check, filter, IsCandidate}
use Rattle.plan_laws.specs.Types.{Oid, Edge, Value, ValueEntry, Start, RANGES}
use Rattle.plan_laws.specs.Types.starts

-- what steps are taken over: label texts, the edges as they are read by their parents and by their children, value
-- entries, what paths reach from named objects, and which rows pass the condition
pub record StepsOver : Type 1 where
  pub labels : List (List ℕ)
  pub edges : List Edge
  pub links : List Edge
  pub entries : List ValueEntry
  pub reaches : PathTree → Oid → Oid → Type 0
  pub passes : List Oid → Type 0

abbrev pub steps_over :
    List (List ℕ) → List Edge → List Edge → List ValueEntry → (PathTree → Oid → Oid → Type 0)
    → (List Oid → Type 0) → StepsOver
steps_over labels edges links entries reaches passes = record {
  labels = labels;
  edges = edges;
  links = links;
  entries = entries;
  reaches = reaches;
  passes = passes;
}

-- the slot that a step fills
abbrev pub slot_of : StepTree → Option ℕ
slot_of (forward start path slot) = Some slot
slot_of (from_guide named path slot) = Some slot
slot_of (from_value label op value rest slot) = Some slot
slot_of (backward child path parent) = Some parent
slot_of (check child path named) = None
slot_of filter = None

-- something leads from the object of one start to that of another
pub record Connects (Leads : Oid → Oid → Type 0) (row : List Oid) (start target : Start) : Type 0 where
  pub from : Oid
  pub to : Oid
  pub begins : StartsAt row start from
  pub ends : StartsAt row target to
  pub leads : Leads from to

-- a path leads from the object to one that passes
abbrev pub LeadsInto : (Oid → Oid → Type 0) → (Oid → Type 0) → Oid → Type 0
LeadsInto Leads Passes from = (to : Oid) × Leads from to × Passes to

-- the row meets what a step asks
abbrev pub Meets : StepsOver → StepTree → List Oid → Type 0
Meets over (forward start path slot) row =
    Connects (Reaches over.labels over.edges path) row start (starts.Slot slot)
Meets over (from_guide named path slot) row =
    Connects (over.reaches path) row (starts.Named named) (starts.Slot slot)
Meets over (from_value label op value rest slot) row =
    (from : Oid) × StartsAt row (starts.Slot slot) from
    × LeadsInto (Reaches over.labels over.links rest) (IsCandidate over.entries label op value) from
Meets over (backward child path parent) row =
    Connects (Reaches over.labels over.links path) row (starts.Slot parent) (starts.Slot child)
Meets over (check child path named) row =
    Connects (Reaches over.labels over.links path) row (starts.Named named) (starts.Slot child)
Meets over filter row = over.passes row

-- no step of these fills the slot
abbrev pub IsLeft : List StepTree → ℕ → Type 0
IsLeft steps slot = All (λ step. slot_of step ≢ Some slot) steps

-- a row finishes another one by these steps: it meets each of them, and is the same where none of them fills a slot
pub record Finishes (over : StepsOver) (steps : List StepTree) (partial row : List Oid) : Type 0 where
  pub eight : length row ≡ RANGES
  pub same : (slot : ℕ) → IsLeft steps slot → slice_get row slot ≡ slice_get partial slot
  pub met : All (λ step. Meets over step row) steps

-- eight slots: these, and behind them slots that are not filled
abbrev pub in_eight : List Oid → List Oid
in_eight slots = slots ++ replicate (RANGES - length slots) (oid_of 0)

-- the rows that are sought: the ranges fill their slots, and the row passes the condition, if there is one
pub record IsSought (labels : List (List ℕ)) (edges : List Edge) (passes : List Oid → Type 0) (bound : BoundTree)
    (row : List Oid) : Type 0 where
  pub slots : List Oid
  pub filled : AreFilled labels edges bound.ranges slots
  pub is : row ≡ in_eight slots
  pub passed : MatchOption bound.cond (Unit {0}) (λ condition. passes row)

-- a range starts at the named object
abbrev pub IsStartOf : BoundTree → Oid → Type 0
IsStartOf bound named = (range : RangeTree) × Contains bound.ranges range × (range.start ≡ starts.Named named)

-- what steps are taken over agrees: the links are the edges, the entries are those of these objects, paths reach from
-- the names of the select what they reach along the edges, and rows pass of which its condition holds
pub record Agrees (over : StepsOver) (objects : List (Oid × Value)) (bound : BoundTree) : Type 0 where
  pub links : (edge : Edge) → Contains over.links edge ↔ Contains over.edges edge
  pub entries : AreValueEntries objects over.edges over.entries
  pub reached : (named : Oid) → IsStartOf bound named → (path : PathTree) (oid : Oid)
      → over.reaches path named oid ↔ Reaches over.labels over.edges path named oid
  pub passed : (row : List Oid) → length row ≡ RANGES
      → over.passes row ↔ HoldsOver over.labels over.edges objects row bound.cond
