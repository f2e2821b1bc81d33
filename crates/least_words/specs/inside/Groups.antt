-- Places in groups: a group is what is first reached by one word.
use Rattle.std.specs.Prelude.{◌≡◌, ℕ, ◌<◌, ◌≤◌, ◌⊎◌, List, [], ◌∷◌, ◌++◌, length, map, Option, None, Some}
use Rattle.std.specs.Prelude.{slice_get, slice_index_or, All, AllPairs, Contains}
use Rattle.std.specs.declared.cmp.Ordering.TheVariants.{Less}
use Rattle.lore_base.specs.Lists.{Extends}
use Rattle.graph_search.specs.Closures.{AreApart, AreMarks}
use Rattle.path_expr.specs.Machines.{IsIn}
use Rattle.least_words.specs.Types.{Oid, Label, States, Arc, Place, Origin, END}
use Rattle.lore_base.specs.LeastWords.{shortlex_cmp, IsUpTo}

-- the words of groups, each made of that of its origin's group and the origin's label
abbrev pub words_on : List (List Label) → List Origin → List (List Label)
words_on words [] = words
words_on words (origin ∷ origins) =
    words_on (words ++ (slice_index_or words origin.group [] ++ origin.label ∷ []) ∷ []) origins

-- the first group has the empty word
abbrev pub words_of : List Origin → List (List Label)
words_of origins = words_on ([] ∷ []) origins

-- the origin of a group lies in an earlier one
abbrev pub AreBack : List Origin → Type 0
AreBack origins = (k : ℕ) (origin : Origin) → slice_get origins k ≡ Some origin → origin.group ≤ k

-- the origin is the last of the list
abbrev pub IsLast : List Origin → Origin → Type 0
IsLast origins origin = (front : List Origin) × (origins ≡ front ++ origin ∷ [])

-- the list gets the origin at its end, if it isn't there
abbrev pub Opens : Origin → List Origin → List Origin → Type 0
Opens origin old new =
    (IsLast old origin × (new ≡ old)) ⊎ ((IsLast old origin → ⊥) × (new ≡ old ++ origin ∷ []))

-- a place without its group
abbrev pub spot : Place → Oid × States
spot place = (place.oid, place.states)

-- each object is marked with the states that it was met under
abbrev pub AreMarked : (Oid → Option States) → List Place → Type 0
AreMarked marked places = AreMarks IsIn marked (map spot places)

-- no object stands twice under one state
abbrev pub AreApartPlaces : List Place → Type 0
AreApartPlaces places = AreApart IsIn (map spot places)

-- places that were found, and the words of their groups
pub record Found : Type 0 where
  pub places : List Place
  pub words : List (List Label)

abbrev pub found_of : List Place → List Origin → Found
found_of places origins = record { places = places; words = words_of origins }

-- the object was met under the state, in the group
abbrev pub IsMetIn : Found → Oid × ℕ → ℕ → Type 0
IsMetIn found there group =
    (place : Place) × Contains found.places place × (place.oid ≡ there.0) × IsIn place.states there.1
    × (place.group ≡ group)

-- by this word
abbrev pub IsMetBy : Found → Oid × ℕ → List Label → Type 0
IsMetBy found there word = (group : ℕ) × IsMetIn found there group × (slice_get found.words group ≡ Some word)

-- by this word or an earlier one
abbrev pub IsMetUpTo : Found → Oid × ℕ → List Label → Type 0
IsMetUpTo found there word = (met : List Label) × IsMetBy found there met × IsUpTo met word

-- the word of a group
abbrev pub word_at : List Origin → ℕ → List Label
word_at origins group = slice_index_or (words_of origins) group []

-- the group in which the object was met at the end, if it was
abbrev pub AreEnds : List Place → Oid → Option ℕ → Type 0
AreEnds places oid None =
    (place : Place) → Contains places place → place.oid ≡ oid → IsIn place.states END → ⊥
AreEnds places oid (Some group) =
    (place : Place) × Contains places place × (place.oid ≡ oid) × IsIn place.states END
    × (place.group ≡ group)

-- words rise with their groups, places are ordered by group, and no object stands twice under one state
pub record IsOrderly (found : Found) : Type 0 where
  pub rising : AllPairs (λ a b. shortlex_cmp a b ≡ Less) found.words
  pub ordered : AllPairs (λ a b. a.group ≤ b.group) found.places
  pub apart : AreApartPlaces found.places
  pub within : All (λ place. place.group < length found.words) found.places

-- no word is behind this one with the label
abbrev pub IsAhead : List (List Label) → List Label → Label → Type 0
IsAhead words word label = (other : List Label) → Contains words other → IsUpTo other (word ++ label ∷ [])

-- the place came by one of the arcs, which lead on from the word
abbrev pub ComesBy : List (List Label) → List Label → List Arc → Place → Type 0
ComesBy words word arcs place =
    (arc : Arc) × Contains arcs arc × (arc.oid ≡ place.oid)
    × ((state : ℕ) → IsIn place.states state → IsIn arc.states state)
    × (slice_get words place.group ≡ Some (word ++ arc.label ∷ []))

-- all arcs, which lead on from the word, were followed
pub record Follows (word : List Label) (arcs : List Arc) (old new : Found) : Type 0 where
  pub places : Extends old.places new.places
  pub words : Extends old.words new.words
  pub met : (arc : Arc) → Contains arcs arc → (state : ℕ) → IsIn arc.states state
      → IsMetUpTo new (arc.oid, state) (word ++ arc.label ∷ [])
  pub come : (k : ℕ) (place : Place) → length old.places ≤ k → slice_get new.places k ≡ Some place
      → ComesBy new.words word arcs place
  pub made : (other : List Label) → Contains new.words other
      → Contains old.words other ⊎ ((arc : Arc) × Contains arcs arc × (other ≡ word ++ arc.label ∷ []))
