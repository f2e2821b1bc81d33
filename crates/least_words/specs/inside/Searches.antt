-- A search for least words on its way: the places found so far, of which the first ones are done with.
use Rattle.std.specs.Prelude.{◌≡◌, ℕ, ◌<◌, List, [], ◌∷◌, ◌++◌, Some, slice_get}
use Rattle.path_expr.specs.Machines.{IsIn}
use Rattle.least_words.specs.Types.{Oid, Label, Place}
use Rattle.least_words.specs.inside.Groups.{Found, IsMetBy, IsMetUpTo, IsOrderly, IsAhead}

-- the word leads from one thing to another
abbrev pub LeadsAlong : {X : Type 0} → (X → Label → X → Type 0) → X → List Label → X → Type 0
LeadsAlong leads x [] y = x ≡ y
LeadsAlong {X} leads x (label ∷ word) y = (z : X) × leads x label z × LeadsAlong leads z word y

-- from one of the starts
abbrev pub IsLedTo : {X : Type 0} → (X → Label → X → Type 0) → (X → Type 0) → X → List Label → Type 0
IsLedTo {X} leads Starts y word = (start : X) × Starts start × LeadsAlong leads start word y

-- what is met is led to by the word; the starts are met; all that the first n places lead to is met, by no
-- later word than theirs and the label; and no word is behind that of the next place, whatever the label
pub record IsSearched (leads : Oid × ℕ → Label → Oid × ℕ → Type 0) (Starts : Oid × ℕ → Type 0)
    (found : Found) (n : ℕ) : Type 0 where
  pub orderly : IsOrderly found
  pub started : (there : Oid × ℕ) → Starts there → IsMetBy found there []
  pub sound : (there : Oid × ℕ) (word : List Label) → IsMetBy found there word
      → IsLedTo leads Starts there word
  pub closed : (k : ℕ) (place : Place) (word : List Label) → k < n → slice_get found.places k ≡ Some place
      → slice_get found.words place.group ≡ Some word → (state : ℕ) → IsIn place.states state
      → (label : Label) (there : Oid × ℕ) → leads (place.oid, state) label there
      → IsMetUpTo found there (word ++ label ∷ [])
  pub ahead : (place : Place) (word : List Label) → slice_get found.places n ≡ Some place
      → slice_get found.words place.group ≡ Some word → (label : Label) → IsAhead found.words word label

-- all that is led to is met, by the least word that leads there
pub record AreFound (leads : Oid × ℕ → Label → Oid × ℕ → Type 0) (Starts : Oid × ℕ → Type 0)
    (found : Found) : Type 0 where
  pub orderly : IsOrderly found
  pub sound : (there : Oid × ℕ) (word : List Label) → IsMetBy found there word
      → IsLedTo leads Starts there word
  pub complete : (there : Oid × ℕ) (word : List Label) → IsLedTo leads Starts there word
      → IsMetUpTo found there word
  pub once : (there : Oid × ℕ) (word other : List Label) → IsMetBy found there word
      → IsMetBy found there other → word ≡ other
