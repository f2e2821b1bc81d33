-- The least word of a path that a machine recognises, and lists of objects with their words.
use Rattle.std.specs.Prelude.{◌==◌, Bool, ℕ, List, Option}
use Rattle.std.specs.Map.{lookup}
use Rattle.lore_base.specs.LeastWords.{IsLeastIfAny, IsSpelledWalk}
use Rattle.lore_base.specs.Paths.{PathTree}
use Rattle.path_expr.specs.Machines.{Machine, Recognises}
use Rattle.least_words.specs.Types.{Oid, Label, Edge}

-- the test for one object
abbrev pub same_oid : Oid → Oid → Bool
same_oid a b = a.0 == b.0

-- the word that an object has in a list, if it has one
abbrev pub word_to : List (Oid × List Label) → Oid → Option (List Label)
word_to words to = lookup (same_oid to) words

-- the least word of a path that the machine recognises, or none where the path reaches nothing
abbrev pub IsLeastOfPath : List (List ℕ) → List Edge → Machine → Oid → Oid → Option (List Label) → Type 0
IsLeastOfPath labels edges machine x y word =
    (path : PathTree) → Recognises machine path → IsLeastIfAny (IsSpelledWalk labels edges path x y) word
