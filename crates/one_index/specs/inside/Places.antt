-- Objects by their places in an ascending list, and numbers at these places.
use Rattle.std.specs.Prelude.{◌≡◌, ◌↔◌, ◌==◌, ℕ, ◌<◌, ◌^◌, List, Some, true, length}
use Rattle.std.specs.Prelude.{slice_get, slice_index, All, AllPairs}
use Rattle.std.proofs.lemmas.Bool.{eqb-true}
use Rattle.one_index.specs.Types.{Oid, Block}
use Rattle.one_index.specs.Blocks.{IsMember}

-- the number stands at the place of the object
abbrev pub IsAt : List Oid → List ℕ → Oid → ℕ → Type 0
IsAt objects numbers oid number =
    (place : ℕ) × (slice_get objects place ≡ Some oid) × (slice_index numbers place ≡ number)

-- the same of places below a count
abbrev pub IsAtBelow : ℕ → List Oid → List ℕ → Oid → ℕ → Type 0
IsAtBelow count objects numbers oid number =
    (place : ℕ) × (place < count) × (slice_get objects place ≡ Some oid)
    × (slice_index numbers place ≡ number)

-- the objects ascend, and each has the number of its block
pub record AreNumbered (objects : List Oid) (numbers : List ℕ) (blocks : List Block) : Type 0 where
  pub ascend : AllPairs (λ a b. a.0 < b.0) objects
  pub every : length numbers ≡ length objects
  pub numbered : All (λ number. number < length blocks) numbers
  pub exact : (number : ℕ) (oid : Oid) → IsMember blocks number oid ↔ IsAt objects numbers oid number
  pub few : length blocks < 2 ^ 32

-- numbers that compare as equal are one
pub same_number : (a b : ℕ) → (a == b) ≡ true → a ≡ b
same_number a b h = eqb-true a b h
