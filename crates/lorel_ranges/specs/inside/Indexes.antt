-- How the program finds the places of plain ranges, which stand by their numbers.
use Rattle.std.specs.Prelude.{◌≡◌, ℕ, ◌⊎◌, List, [], Some, All, Contains, slice_get}
use Rattle.lorel_ranges.specs.Places.{ranged, Place, at_root}
use Rattle.lorel_ranges.specs.Scopes.{linked}

-- the place of an object variable
abbrev pub IsVariable : Place → Type 0
IsVariable place = (variable : List ℕ) × (place ≡ at_root (ranged variable))

-- the place with this number, which has parts
pub record IsPrefix (all : List Place) (number : ℕ) : Type 0 where
  pub place : Place
  pub stands : slice_get all number ≡ Some place
  pub has_parts : place.parts ≡ [] → ⊥

-- each place is found: by its variable, or among those that have parts
pub record IsIndexed (all : List Place) (prefixes : List ℕ) (variables : List (List ℕ × ℕ)) : Type 0 where
  pub named : (variable : List ℕ) (number : ℕ) → linked variables variable ≡ Some number
      → slice_get all number ≡ Some (at_root (ranged variable))
  pub kept : All (IsPrefix all) prefixes
  pub known : (place : Place) → Contains all place
      → ((variable : List ℕ) × (number : ℕ) × (place ≡ at_root (ranged variable)) × (linked variables variable ≡ Some number))
      ⊎ ((number : ℕ) × Contains prefixes number × (slice_get all number ≡ Some place))
