-- How the list of objects that a label leads to grows.
use Rattle.std.specs.Prelude.{◌≡◌, ◌↔◌, ◌⊎◌, Bool, true, false, List, [], ◌∷◌, Contains}
use Rattle.word_walks.specs.Types.{Oid, Label, Edge}

-- the new list has the objects of the old one and those that pass
abbrev pub Gains : (Oid → Type 0) → List Oid → List Oid → Type 0
Gains Passes old new = (oid : Oid) → Contains new oid ↔ (Contains old oid ⊎ Passes oid)

-- one of the edges has the label and leads to the object
abbrev pub IsEndBy : List Edge → Label → Oid → Type 0
IsEndBy edges label oid = (edge : Edge) × Contains edges edge × (edge.label ≡ label) × (edge.child ≡ oid)

-- the object where it passes
abbrev pub item_if : Bool → Oid → List Oid
item_if true oid = oid ∷ []
item_if false oid = []
