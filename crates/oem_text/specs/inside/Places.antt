-- Where the objects are that locals mark.
use Rattle.std.specs.Prelude.{◌≡◌, ◌<◌, ◌↔◌, ℕ, cond, nat_eq, List, [], ◌∷◌, AllPairs, Contains, Option, Some, None}
use Rattle.oem_text.specs.Literals.{Body, Arc, called, IsMarkedAt}

-- a local marks two of the objects
pub record AreDouble (bodies : List Body) : Type 0 where
  pub number : ℕ
  pub first : ℕ
  pub second : ℕ
  pub apart : first < second
  pub one : IsMarkedAt bodies number first
  pub other : IsMarkedAt bodies number second

-- the place that a local has in a list of locals with places
abbrev pub place_in : List (ℕ × ℕ) → ℕ → Option ℕ
place_in [] number = None
place_in (mark ∷ marks) number = cond (nat_eq mark.0 number) (Some mark.1) (place_in marks number)

-- each local comes behind the lower ones, and stands once
abbrev pub AscendByLocal : List (ℕ × ℕ) → Type 0
AscendByLocal marks = AllPairs (λ a b. a.0 < b.0) marks

-- the list has each local with each place of an object that it marks
abbrev pub AreMarks : List Body → List (ℕ × ℕ) → Type 0
AreMarks bodies marks = (number place : ℕ) → Contains marks (number, place) ↔ IsMarkedAt bodies number place

-- a local stands in the list with two places
pub record HaveDouble (marks : List (ℕ × ℕ)) : Type 0 where
  pub number : ℕ
  pub first : ℕ
  pub second : ℕ
  pub apart : first < second
  pub one : Contains marks (number, first)
  pub other : Contains marks (number, second)

-- each local has the place of the one object that it marks
pub record ArePlaces (bodies : List Body) (places : ℕ → Option ℕ) : Type 0 where
  pub marked : (number place : ℕ) → places number ≡ Some place → IsMarkedAt bodies number place
  pub known : (number place : ℕ) → IsMarkedAt bodies number place → places number ≡ Some place

-- the edge leads to a local that has no place
pub record IsLost (places : ℕ → Option ℕ) (number : ℕ) (arc : Arc) : Type 0 where
  pub leads : arc.target ≡ called number
  pub nowhere : places number ≡ None

-- the edge leads to a place, or to a local that has one
pub record IsFound (places : ℕ → Option ℕ) (arc : Arc) : Type 0 where
  pub place : (number : ℕ) → arc.target ≡ called number → (at : ℕ) × (places number ≡ Some at)
