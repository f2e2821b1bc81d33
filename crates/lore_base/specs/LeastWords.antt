-- Words of labels in their order (shortlex), and the least word of a path between two objects.
use Rattle.std.specs.Prelude.{◌≡◌, ◌≢◌, ℕ, List, length, Option, None, Some}
use Rattle.std.specs.Cmp.Lexicographic.{slice_cmp}
use Rattle.std.specs.Ordering.{nat_cmp, ordering_then}
use Rattle.std.specs.declared.cmp.Ordering.{Ordering}
use Rattle.std.specs.declared.cmp.Ordering.TheVariants.{Greater}
use Rattle.lore_base.specs.Paths.{PathTree, Spells, Reaches}
use Rattle.lore_base.specs.Walks.{Walk}
use Rattle.lore_base.specs.Types.{Oid, Label, Edge}

-- labels in the order of their numbers
abbrev pub label_cmp : Label → Label → Ordering
label_cmp a b = nat_cmp a.0 b.0

-- words in order (shortlex): a shorter one first, those of one length by the numbers of their labels
abbrev pub shortlex_cmp : List Label → List Label → Ordering
shortlex_cmp a b = ordering_then (nat_cmp (length a) (length b)) (slice_cmp label_cmp a b)

-- a word is no later than another one
abbrev pub IsUpTo : List Label → List Label → Type 0
IsUpTo a b = shortlex_cmp a b ≢ Greater

-- the first in order of the words that pass
pub record IsLeast (Passes : List Label → Type 0) (word : List Label) : Type 0 where
  pub passes : Passes word
  pub least : (other : List Label) → Passes other → IsUpTo word other

-- that word, or none where no word passes
abbrev pub IsLeastIfAny : (List Label → Type 0) → Option (List Label) → Type 0
IsLeastIfAny Passes None = (word : List Label) → Passes word → ⊥
IsLeastIfAny Passes (Some word) = IsLeast Passes word

-- a word that the path spells is walked from one object to another
abbrev pub IsSpelledWalk : List (List ℕ) → List Edge → PathTree → Oid → Oid → List Label → Type 0
IsSpelledWalk labels edges path x y word = Spells labels path word × Walk edges x word y

-- between two objects a path has one least word or none, and never two answers
abbrev pub HasOneLeastWord : Type 0
HasOneLeastWord =
    (labels : List (List ℕ)) (edges : List Edge) (path : PathTree) (x y : Oid) (word other : Option (List Label))
    → IsLeastIfAny (IsSpelledWalk labels edges path x y) word → IsLeastIfAny (IsSpelledWalk labels edges path x y) other
    → word ≡ other

-- where a path reaches an object, one of its words there is the least
abbrev pub HasSomeLeastWord : Type 0
HasSomeLeastWord = (labels : List (List ℕ)) (edges : List Edge) (path : PathTree) (x y : Oid)
    → Reaches labels edges path x y
    → (word : List Label) × IsLeast (IsSpelledWalk labels edges path x y) word
