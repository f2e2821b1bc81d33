-- The least words that lead along a range to the object in its slot.
use Rattle.std.specs.Prelude.{◌≡◌, ℕ, List, Option, Some, slice_get}
use Rattle.lore_base.specs.Paths.{PathTree, path_tree}
use Rattle.lore_base.specs.LeastWords.{IsLeastIfAny, IsSpelledWalk}
use Rattle.lorel_bound.specs.declared.bound.Range.{Range}
use Rattle.lorel_bound.specs.SlotRows.{StartsAt}
use Rattle.least_words.specs.MachineWords.{word_to}
use Rattle.answers.specs.Types.{Oid, Label, Edge}

-- the words of a slot, over label texts and edges: its range, and its number
pub record WordsOver : Type 0 where
  pub labels : List (List ℕ)
  pub edges : List Edge
  pub range : Range
  pub slot : ℕ

-- a list has the least word of a path from the object to each other one, if there is any
abbrev pub AreWordsFrom : List (List ℕ) → List Edge → PathTree → Oid → List (Oid × List Label) → Type 0
AreWordsFrom labels edges path from words =
    (to : Oid) → IsLeastIfAny (IsSpelledWalk labels edges path from to) (word_to words to)

-- the least word to the object in the slot, or none where the range doesn't lead there
pub record HasWord (over : WordsOver) (slots : List Oid) (word : Option (List Label)) : Type 0 where
  pub start : Oid
  pub begins : StartsAt slots over.range.start start
  pub oid : Oid
  pub ends : slice_get slots over.slot ≡ Some oid
  pub least : IsLeastIfAny (IsSpelledWalk over.labels over.edges (path_tree over.range.path) start oid) word
