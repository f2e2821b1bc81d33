-- Rows of objects: the labels of the edges that enter an object, with the places of their parents.
use Rattle.std.specs.Prelude.{◌≡◌, ◌↔◌, ◌⊎◌, ℕ, List, [], ◌∷◌, ◌++◌, Some, slice_get, Contains}
use Rattle.std.specs.List.{AllZip}
use Rattle.lore_base.specs.Walks.{edge_of}
use Rattle.one_index.specs.Types.{Oid, Label, Edge}

abbrev pub label_of : ℕ → Label
label_of number = record { 0 = number }

-- the label of the edge with the place of its parent stands behind the others, or the parent has no place
abbrev pub IsParentPut : List Oid → Edge → List (ℕ × ℕ) → List (ℕ × ℕ) → Type 0
IsParentPut objects edge old new =
    ((place : ℕ) × (slice_get objects place ≡ Some edge.parent) × (new ≡ old ++ (edge.label.0, place) ∷ []))
    ⊎ ((Contains objects edge.parent → ⊥) × (new ≡ old))

-- the labels of the edges with the places of their parents
abbrev pub IsRowOf : List Oid → List Edge → List (ℕ × ℕ) → Type 0
IsRowOf objects edges row = (label place : ℕ) → Contains row (label, place)
    ↔ ((edge : Edge) × Contains edges edge × (edge.label.0 ≡ label)
    × (slice_get objects place ≡ Some edge.parent))

-- the row of an object
abbrev pub IsRow : List Edge → List Oid → Oid → List (ℕ × ℕ) → Type 0
IsRow edges objects oid row = (label place : ℕ) → Contains row (label, place)
    ↔ ((parent : Oid) × (slice_get objects place ≡ Some parent)
    × Contains edges (edge_of parent (label_of label) oid))

-- the rows of some of the objects
abbrev pub AreRows : List Edge → List Oid → List Oid → List (List (ℕ × ℕ)) → Type 0
AreRows edges objects some rows = AllZip (IsRow edges objects) some rows
