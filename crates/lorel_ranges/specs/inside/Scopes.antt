-- How the program adds to scopes and looks in them, and the path variables that it finds.
use Rattle.std.specs.Prelude.{◌≡◌, ℕ, suc, Bool, true, false, List, [], ◌∷◌, ◌++◌, map, Option, Some, None, MatchOption}
use Rattle.std.specs.Str.{bytes_eq}
use Rattle.lorel_ranges.specs.Scopes.{linked}
use Rattle.lorel_ranges.specs.Views.{place_tree}
use Rattle.lorel_ranges.specs.declared.path_variables.PathVariables.{PathVariables}
use Rattle.lorel_ranges.specs.Places.{Place, word_place}

-- the number of the last of the variables that is this one
abbrev pub deeper : Option ℕ → Bool → Option ℕ
deeper (Some depth) here = Some (suc depth)
deeper None true = Some 0
deeper None false = None

abbrev pub innermost : List (List ℕ) → List ℕ → Option ℕ
innermost [] start = None
innermost (variable ∷ others) start = deeper (innermost others start) (bytes_eq variable start)

-- the variable of a from item, if it has one, is put behind those that are there, if it isn't among them
abbrev pub IsAdded : Option (List ℕ) → ℕ → List (List ℕ × ℕ) → List (List ℕ × ℕ) → Type 0
IsAdded None number old new = new ≡ old
IsAdded (Some variable) number old new =
    MatchOption (linked old variable) (new ≡ old ++ (variable, number) ∷ []) (λ earlier. new ≡ old)

-- in two lists of path variables each one is found to have the same place
abbrev pub FindAlike : List (List ℕ × Place) → List (List ℕ × Place) → Type 0
FindAlike old new = (variable : List ℕ) → word_place old variable ≡ word_place new variable

-- path variables, each with the place of its range
abbrev pub places_found : PathVariables → List (List ℕ × Place)
places_found variables = map (λ entry. (entry.0.now, place_tree entry.1)) variables.places.entries
