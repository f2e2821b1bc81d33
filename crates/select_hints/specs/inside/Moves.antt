-- What a condition says of slots whose ranges lead to those that it starts at.
use Rattle.std.specs.Prelude.{◌≡◌, ◌⊎◌, ℕ, List, [], ◌∷◌, ◌++◌, length, All, Contains}
use Rattle.lore_base.specs.Comparisons.{Compares}
use Rattle.lore_base.specs.Paths.{PathTree, trees_of, Spells, SpellInTurn, Reaches}
use Rattle.lorel_bound.specs.Bound.{RangeTree, BoundPathTree, conds_from}
use Rattle.lorel_bound.specs.Conditions.{OperandOf, at, CondOf, and, paths_of}
use Rattle.lorel_bound.specs.Holding.{Holds}
use Rattle.lorel_bound.specs.Runnable.{IsBoundWithin}
use Rattle.lorel_bound.specs.SlotRows.{AreFilled, MeetsBy}
use Rattle.select_hints.specs.Types.bound_starts
use Rattle.select_hints.specs.Types.{Oid, Label, Edge, Value}

-- Paths one behind the other.

-- the path leads on from where the first leads to where the second leads
abbrev pub Joins : PathTree → PathTree → PathTree → Type 0
Joins first second path =
    (labels : List (List ℕ)) (edges : List Edge) (start between oid : Oid)
    → Reaches labels edges first start between → Reaches labels edges second between oid
    → Reaches labels edges path start oid

-- parts that spell what the path spells are put behind the others
pub record PutsParts (path : PathTree) (old new : List PathTree) : Type 0 where
  pub own : List PathTree
  pub are : new ≡ old ++ own
  pub spell : (labels : List (List ℕ)) (word : List Label) → Spells labels path word → SpellInTurn labels (trees_of own) word

-- Moved comparisons.

-- the path behind a slot
abbrev pub behind : ℕ → PathTree → BoundPathTree
behind slot rest = record { start = bound_starts.Slot slot; rest = rest }

-- the other path starts at a slot too, and reaches what this one reaches, where slots are filled
pub record IsMovedPath (ranges : List RangeTree) (path moved : BoundPathTree) : Type 0 where
  pub within : IsBoundWithin (length ranges) moved.start
  pub meets : (labels : List (List ℕ)) (edges : List Edge) (slots : List Oid) → AreFilled labels edges ranges slots
      → (oid : Oid) → MeetsBy labels edges slots [] path oid → MeetsBy labels edges slots [] moved oid

abbrev pub IsMovedOperand : List RangeTree → OperandOf BoundPathTree → OperandOf BoundPathTree → Type 0
IsMovedOperand ranges (at path) (at moved) = IsMovedPath ranges path moved
IsMovedOperand ranges _ _ = ⊥

-- the condition holds of these slots
abbrev pub HoldsOn :
    List (List ℕ) → List Edge → List (Oid × Value) → List Oid → CondOf BoundPathTree → Type 0
HoldsOn labels edges objects slots condition =
    Holds (MeetsBy labels edges slots) (λ oid value. Contains objects (oid, value)) Compares [] condition

-- its paths start at objects, or at one of so many slots
abbrev pub StartsWithin : ℕ → CondOf BoundPathTree → Type 0
StartsWithin count condition = All (λ path. IsBoundWithin count path.start) (paths_of condition)

-- the other condition starts at slots too, and holds where this one holds of filled slots
pub record IsMoved (ranges : List RangeTree) (condition moved : CondOf BoundPathTree) : Type 0 where
  pub within : StartsWithin (length ranges) condition → StartsWithin (length ranges) moved
  pub implied : (labels : List (List ℕ)) (edges : List Edge) (objects : List (Oid × Value)) (slots : List Oid)
      → AreFilled labels edges ranges slots
      → HoldsOn labels edges objects slots condition → HoldsOn labels edges objects slots moved

-- so it is with one of the list
abbrev pub IsMovedOf : List RangeTree → List (CondOf BoundPathTree) → CondOf BoundPathTree → Type 0
IsMovedOf ranges list moved = (member : CondOf BoundPathTree) × Contains list member × IsMoved ranges member moved

-- the list begins with the members, and so it is with what is behind them
pub record Extends (ranges : List RangeTree) (members list : List (CondOf BoundPathTree)) : Type 0 where
  pub added : List (CondOf BoundPathTree)
  pub are : list ≡ members ++ added
  pub within : All (StartsWithin (length ranges)) members → All (StartsWithin (length ranges)) list
  pub implied : (labels : List (List ℕ)) (edges : List Edge) (objects : List (Oid × Value)) (slots : List Oid)
      → AreFilled labels edges ranges slots
      → All (HoldsOn labels edges objects slots) members → All (HoldsOn labels edges objects slots) list

-- these are the members of the topmost `and`, or the condition itself is the one member
abbrev pub AreMembers : CondOf BoundPathTree → List (CondOf BoundPathTree) → Type 0
AreMembers condition members = (condition ≡ and (conds_from members)) ⊎ (members ≡ condition ∷ [])

-- an `and` of its members and what was put behind them
pub record IsLonger (ranges : List RangeTree) (condition moved : CondOf BoundPathTree) : Type 0 where
  pub members : List (CondOf BoundPathTree)
  pub own : AreMembers condition members
  pub list : List (CondOf BoundPathTree)
  pub is : moved ≡ and (conds_from list)
  pub extends : Extends ranges members list
