-- Edges between numbers of objects.
use Rattle.std.specs.Prelude.{◌≡◌, ◌↔◌, ◌⊎◌, ℕ, List, [], ◌∷◌, ◌++◌, Some, slice_get, slice_index, Contains}
use Rattle.one_index.specs.Types.{Oid, Label, Edge}
use Rattle.one_index.specs.inside.Places.{IsAt, IsAtBelow}

-- some edge with the label leads from an object with the one number to an object with the other
pub record IsEdgeAt (edges : List Edge) (objects : List Oid) (numbers : List ℕ)
    (from : ℕ) (label : Label) (to : ℕ) : Type 0 where
  pub edge : Edge
  pub member : Contains edges edge
  pub parent : IsAt objects numbers edge.parent from
  pub by : edge.label ≡ label
  pub child : IsAt objects numbers edge.child to

-- the same of parents at places below a count
pub record IsEdgeBelow (count : ℕ) (edges : List Edge) (objects : List Oid) (numbers : List ℕ)
    (link : ℕ × (Label × ℕ)) : Type 0 where
  pub edge : Edge
  pub member : Contains edges edge
  pub parent : IsAtBelow count objects numbers edge.parent link.0
  pub by : edge.label ≡ link.1.0
  pub child : IsAt objects numbers edge.child link.1.1

-- the link of the edge stands behind the others, or its child has no place
abbrev pub IsLinkPut : List Oid → List ℕ → ℕ → Edge → List (ℕ × (Label × ℕ)) → List (ℕ × (Label × ℕ)) → Type 0
IsLinkPut objects numbers from edge old new =
    ((place : ℕ) × (slice_get objects place ≡ Some edge.child)
    × (new ≡ old ++ (from, (edge.label, slice_index numbers place)) ∷ []))
    ⊎ ((Contains objects edge.child → ⊥) × (new ≡ old))

-- one of the edges has the label and leads to an object with the number
abbrev pub IsLink : List Oid → List ℕ → ℕ → List Edge → ℕ × (Label × ℕ) → Type 0
IsLink objects numbers from edges link = (link.0 ≡ from)
    × ((edge : Edge) × Contains edges edge × (edge.label ≡ link.1.0)
    × IsAt objects numbers edge.child link.1.1)

abbrev pub AreLinks : List Edge → List Oid → List ℕ → List (ℕ × (Label × ℕ)) → Type 0
AreLinks edges objects numbers links = (link : ℕ × (Label × ℕ))
    → Contains links link ↔ IsEdgeAt edges objects numbers link.0 link.1.0 link.1.1
