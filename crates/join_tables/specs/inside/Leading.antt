-- The objects that lead to others, under the numbers of these.
use Rattle.std.specs.Prelude.{ℤ, List, Contains}
use Rattle.lore_base.specs.Walks.{Walk, edge_of}
use Rattle.join_tables.specs.Types.{Oid, Label, Edge}

-- the parent of an edge, under the number
abbrev pub parent_of : ℤ → Edge → ℤ × Oid
parent_of number edge = (number, edge.parent)

-- the parents of one child more stand among them, under its number
pub record TakesParents (links : List Edge) (label : Label) (child : ℤ × Oid) (old new : List (ℤ × Oid)) : Type 0 where
  pub kept : (row : ℤ × Oid) → Contains old row → Contains new row
  pub taken : (parent : Oid) → Contains links (edge_of parent label child.1) → Contains new (child.0, parent)

-- and so for each of some children
abbrev pub LeadBy : List Edge → Label → List (ℤ × Oid) → List (ℤ × Oid) → Type 0
LeadBy links label children rows =
    (number : ℤ) (child parent : Oid) → Contains children (number, child) → Contains links (edge_of parent label child)
    → Contains rows (number, parent)

-- and for all from which the word is walked there
abbrev pub LeadInto : List Edge → List Label → List (ℤ × Oid) → List (ℤ × Oid) → Type 0
LeadInto links word ends rows =
    (number : ℤ) (end oid : Oid) → Contains ends (number, end) → Walk links oid word end → Contains rows (number, oid)
