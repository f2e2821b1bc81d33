-- What a condition asks for, as clues have it: where a path from the object in a slot leads, or one from an object that a path
-- from there reaches.
use Rattle.std.specs.Prelude.{ℕ, List, Option, None, Some}
use Rattle.lore_base.specs.Paths.{path_tree}
use Rattle.lorel_bound.specs.Bound.{BoundPathTree}
use Rattle.lorel_bound.specs.Conditions.{OperandOf, constant, at, CondOf, exists, compare, same}
use Rattle.lorel_bound.specs.SlotRows.{HoldsOver}
use Rattle.member_clues.specs.Types.{Oid, Edge, Value, Path, BoundStart}
use Rattle.member_clues.specs.Types.bound_starts
use Rattle.member_clues.specs.declared.clues.End.{End}
use Rattle.member_clues.specs.declared.clues.End.TheVariants as e
use Rattle.member_clues.specs.declared.clues.Given.{Given}
use Rattle.member_clues.specs.declared.clues.Given.TheVariants as given
use Rattle.member_clues.specs.declared.clues.Meeting.{Meeting}

-- what is given, as a side of a comparison
abbrev pub given_operand : Given → OperandOf BoundPathTree
given_operand (given.Atom value) = constant value.now
given_operand (given.At start route) = at (record { start = start; rest = path_tree route })

-- the path that is to reach the same object
abbrev pub other_path : Meeting → BoundPathTree
other_path meeting = record { start = meeting.start; rest = path_tree meeting.route }

-- the path leads to the end
abbrev pub asked : BoundPathTree → End → CondOf BoundPathTree
asked path (e.Compared own) = compare (at path) own.op (given_operand own.given)
asked path (e.Met own) = same path (other_path own)

-- the way leads to the end from the object in the slot, or from one that the path to go through reaches from there
abbrev pub asked_of : ℕ → Option Path → Path → End → CondOf BoundPathTree
asked_of slot None way end = asked (record { start = bound_starts.Slot slot; rest = path_tree way }) end
asked_of slot (Some first) way end =
    exists (record { start = bound_starts.Slot slot; rest = path_tree first })
    (asked (record { start = bound_starts.Quantified 0; rest = path_tree way }) end)

-- a start is no quantifier's object
abbrev pub IsOutside : BoundStart → Type 0
IsOutside (bound_starts.Slot slot) = Unit {0}
IsOutside (bound_starts.Named named) = Unit {0}
IsOutside (bound_starts.Quantified depth) = ⊥

-- and so of a side of a comparison
abbrev pub IsOperandOutside : OperandOf BoundPathTree → Type 0
IsOperandOutside (constant value) = Unit {0}
IsOperandOutside (at path) = IsOutside path.start

-- the other condition holds wherever the first one does
abbrev pub Follows : List (List ℕ) → CondOf BoundPathTree → CondOf BoundPathTree → Type 0
Follows labels condition other =
    (edges : List Edge) (objects : List (Oid × Value)) (slots : List Oid)
    → HoldsOver labels edges objects slots (Some condition) → HoldsOver labels edges objects slots (Some other)
