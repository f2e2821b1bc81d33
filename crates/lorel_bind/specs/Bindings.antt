-- What binding gives: the fused ranges of a select by slots, its cells and its condition.
use Rattle.std.specs.Prelude.{◌≡◌, ℕ, List, Option, Some, None, slice_get}
use Rattle.std.specs.List.{AllZip}
use Rattle.lorel_bind.specs.Types.{Oid, Start, BoundStart, CellOf}
use Rattle.lorel_bind.specs.Types.starts
use Rattle.lorel_bind.specs.Types.bound_starts
use Rattle.lorel_bind.specs.Types.shown
use Rattle.lore_base.specs.Names.{object_of}
use Rattle.lore_base.specs.Paths.{PathTree, seq, trees_of}
use Rattle.lorel_trees.specs.Trees.{SelectTree}
use Rattle.lorel_ranges.specs.Places.{named, quantified, Place, at_root, CellPlace, object, word, cells_of}
use Rattle.lorel_bound.specs.Conditions.{OperandOf, constant, at, CondOf, or, and, not, exists, for_all, compare, same, CondsOf, no_cond, cond}
use Rattle.lorel_ranges.specs.Conditions.{cond_of}
use Rattle.lorel_ranges.specs.Ranges.{PlacedRange, ArePlain, AreFused, IsUsed, IsFixed, places}
use Rattle.lorel_bound.specs.Bound.{RangeTree, BoundPathTree, BoundTree}

-- the start of a place: the object of a name, or the slot of a fused range
abbrev pub IsStartOfPlace : List (List ℕ × Oid) → List PlacedRange → Place → Start → Type 0
IsStartOfPlace names fused place (starts.Named oid) =
    (name : List ℕ) × (place ≡ at_root (named name)) × (object_of names name ≡ Some oid)
IsStartOfPlace names fused place (starts.Slot slot) = slice_get (places fused) slot ≡ Some place

-- and so in a condition, or it is the object of a quantifier
abbrev pub IsBoundStart : List (List ℕ × Oid) → List PlacedRange → Place → BoundStart → Type 0
IsBoundStart names fused place (bound_starts.Named oid) = IsStartOfPlace names fused place (starts.Named oid)
IsBoundStart names fused place (bound_starts.Slot slot) = IsStartOfPlace names fused place (starts.Slot slot)
IsBoundStart names fused place (bound_starts.Quantified depth) = place ≡ at_root (quantified depth)

-- a bound range is a fused one
pub record IsBoundRange (names : List (List ℕ × Oid)) (fused : List PlacedRange) (range : PlacedRange) (bound : RangeTree) :
    Type 0 where
  pub start : IsStartOfPlace names fused range.start bound.start
  pub path : bound.path ≡ seq (trees_of range.parts)

-- a bound cell shows the object of its place, or the word of the fused range of that place
abbrev pub IsBoundCell : List (List ℕ × Oid) → List PlacedRange → CellPlace → CellOf → Type 0
IsBoundCell names fused (object place) (shown.Object start) = IsStartOfPlace names fused place start
IsBoundCell names fused (word place) (shown.PathOf slot) = slice_get (places fused) slot ≡ Some place
IsBoundCell names fused _ _ = ⊥

-- a bound path is a path of the text: it starts at the longest prefix that is a range
pub record IsBoundPath (names : List (List ℕ × Oid)) (plain fused : List PlacedRange) (path : Place) (bound : BoundPathTree) :
    Type 0 where
  pub fixed : Place
  pub rest : List PathTree
  pub is_fixed : IsFixed plain path fixed rest
  pub begins : IsBoundStart names fused fixed bound.start
  pub goes_on : bound.rest ≡ seq (trees_of rest)

-- conditions that differ in their paths alone, each related to the other
module _ {P Q : Type 0} (R : P → Q → Type 0) where
  abbrev pub CorrespondOperands : OperandOf P → OperandOf Q → Type 0
  CorrespondOperands (constant a) (constant b) = a ≡ b
  CorrespondOperands (at a) (at b) = R a b
  CorrespondOperands _ _ = ⊥

  abbrev mutual
    pub Correspond : CondOf P → CondOf Q → Type 0
    Correspond (or a) (or b) = CorrespondEach a b
    Correspond (and a) (and b) = CorrespondEach a b
    Correspond (not a) (not b) = Correspond a b
    Correspond (exists a body) (exists b other) = R a b × Correspond body other
    Correspond (for_all a body) (for_all b other) = R a b × Correspond body other
    Correspond (compare a op right) (compare b other last) =
        CorrespondOperands a b × (op ≡ other) × CorrespondOperands right last
    Correspond (same a right) (same b last) = R a b × R right last
    Correspond _ _ = ⊥

    pub CorrespondEach : CondsOf P → CondsOf Q → Type 0
    CorrespondEach no_cond no_cond = Unit {0}
    CorrespondEach (cond a others) (cond b more) = Correspond a b × CorrespondEach others more
    CorrespondEach _ _ = ⊥

-- two conditions that may be missing
abbrev pub CorrespondIf : {P Q : Type 0} → (P → Q → Type 0) → Option (CondOf P) → Option (CondOf Q) → Type 0
CorrespondIf R None None = Unit {0}
CorrespondIf R (Some a) (Some b) = Correspond R a b
CorrespondIf R _ _ = ⊥

-- the bound select is the select of the text over these names
pub record IsBinding (names : List (List ℕ × Oid)) (query : SelectTree) (bound : BoundTree) : Type 0 where
  pub plain : List PlacedRange
  pub fused : List PlacedRange
  pub made : ArePlain query plain
  pub fuses : AreFused (IsUsed query plain) plain fused
  pub ranges : AllZip (IsBoundRange names fused) fused bound.ranges
  pub cells : AllZip (IsBoundCell names fused) (cells_of query) bound.cells
  pub condition : CorrespondIf (IsBoundPath names plain fused) (cond_of query) bound.cond
