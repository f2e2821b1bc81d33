-- Paths that are plain labels one after another, the one word that each of them spells, and what is reached along it.
use Rattle.std.specs.Prelude.{◌≡◌, ◌↔◌, ℕ, ◌+◌, ◌*◌, ◌≤◌, List, length, sum_by, Contains}
use Rattle.lore_base.specs.Paths.{PathTree, PathTrees, step, seq, none, more, Spells}
use Rattle.lore_base.specs.Walks.{Walk}
use Rattle.word_walks.specs.Types.{Oid, Label, Edge, Pattern, Plain, Wild, OnlyWord, Labels, Lacking}

-- a label is given by its text
abbrev pub IsPlain : Pattern → Type 0
IsPlain (Plain text) = Unit {0}
IsPlain (Wild pattern) = ⊥

-- a path is such a label
abbrev pub IsPlainLabel : PathTree → Type 0
IsPlainLabel (step pattern) = IsPlain pattern
IsPlainLabel _ = ⊥

abbrev pub ArePlain : PathTrees → Type 0
ArePlain none = Unit {0}
ArePlain (more first others) = IsPlainLabel first × ArePlain others

-- or such labels one after another
abbrev pub IsPlainWord : PathTree → Type 0
IsPlainWord (step pattern) = IsPlain pattern
IsPlainWord (seq parts) = ArePlain parts
IsPlainWord _ = ⊥

-- the path spells this word and no other, over a table of label texts; where a label is lacking, it spells none
abbrev pub IsItsWord : List (List ℕ) → PathTree → OnlyWord → Type 0
IsItsWord labels path (Labels own) = (word : List Label) → Spells labels path word ↔ (word ≡ own)
IsItsWord labels path Lacking = (word : List Label) → Spells labels path word → ⊥

-- the word is walked from one object to another
abbrev pub IsReachedBy : OnlyWord → List Edge → Oid → Oid → Type 0
IsReachedBy (Labels word) edges x y = Walk edges x word y
IsReachedBy Lacking edges x y = ⊥

-- how many labels are walked along
abbrev pub length_of : OnlyWord → ℕ
length_of (Labels word) = length word
length_of Lacking = 0

-- a count grows by at most so many reads of each object that passes: so many times the sum over any list that holds
-- them
abbrev pub TakesAtMost : ℕ → (Oid → ℕ) → (Oid → Type 0) → ℕ → ℕ → Type 0
TakesAtMost count reads Passes before after =
    (all : List Oid) → ((oid : Oid) → Passes oid → Contains all oid) → after ≤ before + count * sum_by reads all
