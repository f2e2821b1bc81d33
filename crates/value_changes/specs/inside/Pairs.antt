-- Labels with the objects that edges enter by them.
use Rattle.std.specs.Prelude.{◌≡◌, ◌⊎◌, ◌↔◌, List, Contains}
use Rattle.std.specs.Ordering.{nat_cmp, ordering_then}
use Rattle.std.specs.declared.cmp.Ordering.{Ordering}
use Rattle.value_changes.specs.Types.{Oid, Edge, Value}
use Rattle.value_changes.specs.Reads.{HasAtom}
use Rattle.value_changes.specs.declared.pairs.Pair.{Pair}

-- pairs in the order of label and object
abbrev pub pair_cmp : Pair → Pair → Ordering
pair_cmp a b = ordering_then (nat_cmp a.label.0 b.label.0) (nat_cmp a.object.0 b.object.0)

-- the label and the child of an edge
abbrev pub pair_of : Edge → Pair
pair_of edge = record { label = edge.label; object = edge.child }

-- the edges of the list that are not lost
pub record AreKept (edges lost kept : List Edge) : Type 0 where
  pub exact : (edge : Edge) → Contains kept edge ↔ (Contains edges edge × (¬ Contains lost edge))

-- an edge that passes has this label and this child
abbrev pub IsPairOf : (Edge → Type 0) → Pair → Type 0
IsPairOf Passes pair = (edge : Edge) × Passes edge × (pair_of edge ≡ pair)

-- the object of the pair has an atomic value
abbrev pub IsAtomic : List (Oid × Value) → Pair → Type 0
IsAtomic objects pair = HasAtom objects pair.object

-- an edge that passes has this label and this child, and the child has an atomic value
abbrev pub IsAtomicPairOf : List (Oid × Value) → (Edge → Type 0) → Pair → Type 0
IsAtomicPairOf objects Passes pair = IsPairOf Passes pair × IsAtomic objects pair

-- the edge is fresh, or one that enters and isn't lost
abbrev pub IsThere : List Edge → List Edge → List Edge → Edge → Type 0
IsThere entering lost fresh edge = Contains fresh edge ⊎ (Contains entering edge × (¬ Contains lost edge))

-- the pair is listed, and its object was given a value or the pair is not one of the others
abbrev pub IsMoving : List Pair → List Pair → List Oid → Pair → Type 0
IsMoving pairs others given pair = Contains pairs pair × (Contains given pair.object ⊎ (¬ Contains others pair))
