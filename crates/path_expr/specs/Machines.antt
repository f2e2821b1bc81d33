-- Machines over labels: one reads a word label by label and accepts it where it comes to its end.
use Rattle.std.specs.Prelude.{◌≡◌, ◌↔◌, ℕ, ◌≤◌, List, [], ◌∷◌, length, reverse, All, Some, slice_get}
use Rattle.std.specs.Prelude.{◌==◌, Bool, not, bit_and}
use Rattle.std.specs.Int.{bit_at}
use Rattle.lore_base.specs.Paths.{PathTree, Fits, Spells}
use Rattle.path_expr.specs.Types.{Label, States, END, Leaf, One, AnyLabel}

-- the state is in the set
abbrev pub IsIn : States → ℕ → Type 0
IsIn states state = bit_at states.0 state ≡ 1

-- some state of the set comes before the end: one of the 64 lowest bits is set
abbrev pub reads_on : States → Bool
reads_on states = not (bit_and states.0 18_446_744_073_709_551_615 == 0)

-- a machine: in state i it is about to read its leaf i and then goes on to one of the states that follow it, the
-- end among them; it begins in one of its starts
pub record Machine : Type 0 where
  pub leaves : List Leaf
  pub follow : List States
  pub start : States

-- a leaf takes a label
abbrev pub Takes : List (List ℕ) → Leaf → Label → Type 0
Takes labels (One pattern) label = Fits labels pattern label
Takes labels AnyLabel label = Unit {0}

-- the leaf of a state takes a label
abbrev pub Reads : List (List ℕ) → Machine → ℕ → Label → Type 0
Reads labels machine state label =
    (leaf : Leaf) × (slice_get machine.leaves state ≡ Some leaf) × Takes labels leaf label

-- a state may come after another one
abbrev pub Follows : Machine → ℕ → ℕ → Type 0
Follows machine state next =
    (states : States) × (slice_get machine.follow state ≡ Some states) × IsIn states next

-- reading a label leads from one state to the next
abbrev pub Moves : List (List ℕ) → Machine → ℕ → Label → ℕ → Type 0
Moves labels machine state label next = Reads labels machine state label × Follows machine state next

-- reading a word leads from one state to another
abbrev pub MovesThrough : List (List ℕ) → Machine → ℕ → List Label → ℕ → Type 0
MovesThrough labels machine state [] last = state ≡ last
MovesThrough labels machine state (label ∷ word) last =
    (next : ℕ) × Moves labels machine state label next × MovesThrough labels machine next word last

-- reading a word leads from a start to the end
abbrev pub Accepts : List (List ℕ) → Machine → List Label → Type 0
Accepts labels machine word = (state : ℕ) × IsIn machine.start state × MovesThrough labels machine state word END

-- a machine recognises a path: it accepts what the path spells, and no more, whatever the table of labels
abbrev pub Recognises : Machine → PathTree → Type 0
Recognises machine path =
    (labels : List (List ℕ)) (word : List Label) → Accepts labels machine word ↔ Spells labels path word

-- a machine accepts the words that another one accepts when they are read backwards
abbrev pub ReadsBackwards : Machine → Machine → Type 0
ReadsBackwards machine back =
    (labels : List (List ℕ)) (word : List Label) → Accepts labels back word ↔ Accepts labels machine (reverse word)

-- reading a label leads from some state of the set to this one
abbrev pub StepsTo : List (List ℕ) → Machine → States → Label → ℕ → Type 0
StepsTo labels machine states label next =
    (state : ℕ) × IsIn states state × Moves labels machine state label next

-- a set of states is what a label leads to from another
abbrev pub IsStep : List (List ℕ) → Machine → States → Label → States → Type 0
IsStep labels machine states label after =
    (state : ℕ) → IsIn after state ↔ StepsTo labels machine states label state

-- a machine that moves, over a table of labels
pub record Moving : Type 0 where
  pub labels : List (List ℕ)
  pub machine : Machine

-- a set of states is left of another after a word, one step for each label
abbrev pub StepsThrough : List (List ℕ) → Machine → States → List Label → States → Type 0
StepsThrough labels machine states [] last = states ≡ last
StepsThrough labels machine states (label ∷ word) last =
    (after : States) × IsStep labels machine states label after × StepsThrough labels machine after word last

-- whoever steps from the starts through a word is at the end exactly where the word is accepted
abbrev pub IsAcceptedByStepping : Type 0
IsAcceptedByStepping =
    (labels : List (List ℕ)) (machine : Machine) (word : List Label) (last : States)
    → StepsThrough labels machine machine.start word last → IsIn last END ↔ Accepts labels machine word

-- no state of the set is beyond the end
abbrev pub UpToEnd : States → Type 0
UpToEnd states = (state : ℕ) → IsIn states state → state ≤ END

-- what every automaton keeps to: a set of followers for each leaf, no leaf at the end or beyond, and no state beyond
-- the end
pub record IsBounded (machine : Machine) : Type 0 where
  pub paired : length machine.follow ≡ length machine.leaves
  pub few : length machine.leaves ≤ END
  pub starts : UpToEnd machine.start
  pub follows : All UpToEnd machine.follow
