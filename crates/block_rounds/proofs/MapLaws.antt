-- What stands in lists that are joined or counted up; and that two numbers are the same or not.
use Rattle.std.proofs.Common.{◌≡◌, ◌≢◌, ◌⊎◌, ℕ, ◌<◌, inl, inr, List, [], ◌∷◌, Contains, subst, sym, ◌∙◌, arith}
use Rattle.std.specs.List.{flat_map, range_with_len}
use Rattle.std.proofs.lemmas.Bool.{cases_lt}
use Rattle.std.proofs.lemmas.List.Elements.{Contains-append_left, Contains-append_right, Contains-append_cases}
use Rattle.std.proofs.lemmas.List.FromFn.{length-range_with_len, get_or-range_with_len}
use Rattle.lore_lists.proofs.MemberLaws.{Contains-none, Contains-head, Contains-tail, Contains-cases}

pub Contains-flat_map : {X Y : Type 0} (f : X → List Y) (xs : List X) (x : X) (y : Y) → Contains xs x
    → Contains (f x) y → Contains (flat_map f xs) y
Contains-flat_map f [] x y at held = absurd (Contains-none x at)
Contains-flat_map {X} {Y} f (first ∷ xs) x y at held = elim (Contains-cases first xs x at) [
  | inl same ↦ Contains-append_left (f first) (flat_map f xs) y
      (subst (λ (z : X). Contains (f z) y) (sym same) held)
  | inr later ↦ Contains-append_right (f first) (flat_map f xs) y (Contains-flat_map f xs x y later held)
]

pub Contains-from_flat_map : {X Y : Type 0} (f : X → List Y) (xs : List X) (y : Y) → Contains (flat_map f xs) y
    → (x : X) × Contains xs x × Contains (f x) y
Contains-from_flat_map f [] y at = absurd (Contains-none y at)
Contains-from_flat_map f (first ∷ xs) y at = elim (Contains-append_cases (f first) (flat_map f xs) y at) [
  | inl here ↦ (first, Contains-head first xs, here)
  | inr later ↦ (let rest = Contains-from_flat_map f xs y later in (rest.0, Contains-tail first xs rest.0 rest.1, rest.2))
]

-- a number stands in the count from 0 where it is below the length
pub Contains-count : (n k : ℕ) → k < n → Contains (range_with_len 0 n) k
Contains-count n k below =
    (k, omega (arith, length-range_with_len 0 n), get_or-range_with_len 0 n k k below ∙ omega arith)

pub Contains-from_count : (n k : ℕ) → Contains (range_with_len 0 n) k → k < n
Contains-from_count n k at =
    let within : at.0 < n = omega (arith, at.1, length-range_with_len 0 n) in
    omega (arith, within, get_or-range_with_len 0 n at.0 k within, at.2)

pub same_or_not : (a b : ℕ) → (a ≡ b) ⊎ (a ≢ b)
same_or_not a b = elim (cases_lt a b) [
  | inl less ↦ inr (λ same. omega (arith, less, same))
  | inr rest ↦ elim (cases_lt b a) [
    | inl more ↦ inr (λ same. omega (arith, more, same))
    | inr other ↦ inl (omega (arith, rest, other))
  ]
]
