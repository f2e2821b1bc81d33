-- Scopes as the program keeps them: the variables of from items with their numbers, and those of quantifiers around.
use Rattle.std.specs.Prelude.{◌≡◌, ◌↔◌, ℕ, suc, List, [], ◌∷◌, map, Option, All, Contains}
use Rattle.std.specs.Str.{bytes_eq}
use Rattle.std.specs.Map.{lookup}
use Rattle.lorel_ranges.specs.Places.{ranged, quantified, Scope}

-- a scope with the variables of quantifiers around, the outermost first, so many further ones enclosing them
abbrev pub enclosed : ℕ → List (List ℕ) → Scope → Scope
enclosed depth [] scope = scope
enclosed depth (variable ∷ others) scope = enclosed (suc depth) others ((variable, quantified depth) ∷ scope)

-- exactly these variables of from items are in scope
pub record IsScope (variables : List (List ℕ)) (scope : Scope) : Type 0 where
  pub same : (variable : List ℕ) → Contains variables variable ↔ Contains (map (λ entry. entry.0) scope) variable
  pub each_ranged : All (λ entry. entry.1 ≡ ranged entry.0) scope

-- the number that is kept with a variable
abbrev pub linked : List (List ℕ × ℕ) → List ℕ → Option ℕ
linked variables variable = lookup (bytes_eq variable) variables

-- the variables, without their numbers
abbrev pub names_of : List (List ℕ × ℕ) → List (List ℕ)
names_of variables = map (λ entry. entry.0) variables
