-- The objects of a member of a condition, listed once, and tests of the other members.
use Rattle.std.specs.Prelude.{◌≡◌, ◌↔◌, ℕ, ◌<◌, List, Option, Some, option_map, All, AllPairs, Contains, slice_get}
use Rattle.lore_base.specs.Paths.{PathTree}
use Rattle.lore_base.specs.TargetSets.{ListsInOrder}
use Rattle.index_traits.specs.Entries.{IsProbed}
use Rattle.lorel_bound.specs.Bound.{BoundPathTree, bound_cond}
use Rattle.lorel_bound.specs.Conditions.{CondOf}
use Rattle.lorel_bound.specs.SlotRows.{HoldsOver}
use Rattle.lorel_bound.specs.Plans.{IsLabelOf, IsCandidate}
use Rattle.planner.specs.Ends.{EndsIn}
use Rattle.lorel_eval.specs.Tests.{CondOver}
use Rattle.index_eval.specs.Types.{Oid, Label, Edge, Value, Op, ValueEntry, BoundCond}
use Rattle.index_eval.specs.declared.listing.Listed.{Listed}

-- the row has one of the objects in the slot
abbrev pub HasListed : Listed → List Oid → Type 0
HasListed listed row = (oid : Oid) × (slice_get row listed.slot ≡ Some oid) × Contains listed.oids oid

-- they ascend, and the condition holds of just the rows that have one of them in the slot
pub record AreObjectsOf (labels : List (List ℕ)) (edges : List Edge) (objects : List (Oid × Value)) (condition : CondOf BoundPathTree)
    (listed : Listed) : Type 0 where
  pub ascend : AllPairs (λ a b. a.0 < b.0) listed.oids
  pub exact : (row : List Oid) → HoldsOver labels edges objects row (Some condition) ↔ HasListed listed row

-- the path ends in a plain label, and these are the objects that an edge with the label enters and whose values compare so
pub record AreEndsOf (labels : List (List ℕ)) (entries : List ValueEntry) (path : PathTree) (op : Op) (value : Value) (ends : List Oid)
    : Type 0 where
  pub text : List ℕ
  pub label : Option Label
  pub ends_in : EndsIn path text
  pub labelled : IsLabelOf labels text label
  pub probed : IsProbed op
  pub lists : ListsInOrder (IsCandidate entries label op value) ends

-- the test holds of the row
abbrev pub PassesOn : List Oid → CondOver → Type 0
PassesOn row test = HoldsOver test.labels test.edges test.objects row (option_map bound_cond test.cond)

-- a condition over label texts, edges and objects
abbrev pub cond_over : List (List ℕ) → List Edge → List (Oid × Value) → BoundCond → CondOver
cond_over labels edges objects cond = record { labels = labels; edges = edges; objects = objects; cond = Some cond }

-- the objects ascend, and the condition holds where the row has one of them and all of the tests hold
pub record SplitsIn (labels : List (List ℕ)) (edges : List Edge) (objects : List (Oid × Value)) (condition : Option (CondOf BoundPathTree))
    (listed : Listed) (others : List CondOver) : Type 0 where
  pub ascend : AllPairs (λ a b. a.0 < b.0) listed.oids
  pub exact : (row : List Oid) → HoldsOver labels edges objects row condition ↔ (HasListed listed row × All (PassesOn row) others)

-- and so of a condition that is there
abbrev pub Splits : List (List ℕ) → List Edge → List (Oid × Value) → CondOf BoundPathTree → Listed → List CondOver → Type 0
Splits labels edges objects condition listed others = SplitsIn labels edges objects (Some condition) listed others
