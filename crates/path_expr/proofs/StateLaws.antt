-- Sets of states, bit by bit.
use Rattle.std.proofs.Common.{◌≡◌, ◌≢◌, ◌↔◌, ℕ, zero, suc, ◌+◌, ◌-◌, ◌*◌, ◌/◌, ◌%◌, ◌^◌, ◌<◌, ◌≤◌, ◌⊎◌, inl, inr, max, min, bit_and, bit_or, arith, Bool, IsTrue, nat_eq, refl, sym, ap, subst}
use Rattle.std.specs.Int.{bit_at, w128, trailing_zeros}
use Rattle.std.specs.Int.RustNames.{bit_xor}
use Rattle.std.proofs.lemmas.Nat.{pow-add}
use Rattle.std.proofs.Math.Nat.{div-div-eq-div-mul, div-le_self}
use Rattle.std.proofs.lemmas.Nat.Bits.{bit_at_or, bit_at_and, bit_at_xor, bit_at-lt, bit_at-zero, bit_at-pow_same, bit_at-pow_other, bit_at-trailing_zeros, bit_at_above, same_from_bits}
use Rattle.std.proofs.lemmas.Grind.{one_shifted}
use Rattle.path_expr.specs.Types.{States}
use Rattle.path_expr.specs.Machines.{IsIn}
use Rattle.std.proofs.lemmas.Bool.Decides.{nat_tests}
use Rattle.std.proofs.lemmas.Bool.{cases_lt}

max_one : (x y : ℕ) → x < 2 → y < 2 → (max x y ≡ 1) ↔ ((x ≡ 1) ⊎ (y ≡ 1))
max_one zero y p q = (λ h. inr (omega arith), λ h. elim h [ inl a ↦ omega arith | inr b ↦ omega arith ])
max_one (suc x) y p q = (λ h. inl (omega arith), λ h. omega arith)

-- the states of either set
pub bit_of_either : (a b i : ℕ) → (bit_at (bit_or a b) i ≡ 1) ↔ ((bit_at a i ≡ 1) ⊎ (bit_at b i ≡ 1))
bit_of_either a b i = rw (bit_at_or a b i) (max_one (bit_at a i) (bit_at b i) (bit_at-lt a i) (bit_at-lt b i))

min_one : (x y : ℕ) → x < 2 → y < 2 → (min x y ≡ 1) ↔ ((x ≡ 1) × (y ≡ 1))
min_one x y p q = (λ h. (omega arith, omega arith), λ h. let a = h.0 in let b = h.1 in omega arith)

-- the states of both sets
pub bit_of_both : (a b i : ℕ) → (bit_at (bit_and a b) i ≡ 1) ↔ ((bit_at a i ≡ 1) × (bit_at b i ≡ 1))
bit_of_both a b i = rw (bit_at_and a b i) (min_one (bit_at a i) (bit_at b i) (bit_at-lt a i) (bit_at-lt b i))

xor_one : (x y : ℕ) → x < 2 → y < 2 → ((x + min x y) % 2 ≡ 1) ↔ ((x ≡ 1) × (y ≡ 1 → ⊥))
xor_one x y p q = (λ h. (omega arith, λ k. omega arith), λ h. let a = h.0 in let b = h.1 in omega arith)

-- the states of a set that another one lacks
pub bit_of_first : (a b i : ℕ) → (bit_at (bit_xor a (bit_and a b)) i ≡ 1) ↔ ((bit_at a i ≡ 1) × (bit_at b i ≡ 1 → ⊥))
bit_of_first a b i =
    rw (bit_at_xor a (bit_and a b) i, bit_at_and a b i) (xor_one (bit_at a i) (bit_at b i) (bit_at-lt a i) (bit_at-lt b i))

same_or_not : (i k : ℕ) → (i ≡ k) ⊎ (i ≢ k)
same_or_not zero zero = inl refl
same_or_not zero (suc k) = inr (λ e. omega arith)
same_or_not (suc i) zero = inr (λ e. omega arith)
same_or_not (suc i) (suc k) = elim (same_or_not i k) [ inl same ↦ inl (ap suc same) | inr other ↦ inr (λ e. other (omega arith)) ]

-- one state alone
pub bit_of_one : (k i : ℕ) → k < 128 → (bit_at (1 * 2 ^ k % 2 ^ 128) i ≡ 1) ↔ (i ≡ k)
bit_of_one k i within = rw ((one_shifted k (2 ^ 128 - 1) refl within).0) (
  λ h. elim (same_or_not i k) [ inl same ↦ same | inr other ↦ absurd (omega (arith, bit_at-pow_other k i other)) ],
  λ same. subst (λ (x : ℕ). bit_at (2 ^ k) x ≡ 1) (sym same) (bit_at-pow_same k),
)

bit_shifted : (n from i : ℕ) → bit_at (n / 2 ^ from) i ≡ bit_at n (from + i)
bit_shifted n from i = rw (pow-add 2 from i) (ap (λ (x : ℕ). x % 2) (div-div-eq-div-mul n (2 ^ from) (2 ^ i)))

-- no state from a place on
pub none_from : (n from : ℕ) → n / 2 ^ from ≡ 0 → (i : ℕ) → from ≤ i → bit_at n i ≡ 1 → ⊥
none_from n from empty i behind has =
    let place : from + (i - from) ≡ i = omega arith in
    let bit : bit_at (n / 2 ^ from) (i - from) ≡ bit_at n i = subst (λ (x : ℕ). bit_at (n / 2 ^ from) (i - from) ≡ bit_at n x) place (bit_shifted n from (i - from)) in
    let nothing : bit_at (n / 2 ^ from) (i - from) ≡ 0 = subst (λ (x : ℕ). bit_at x (i - from) ≡ 0) (sym empty) (bit_at-zero (i - from)) in
    omega arith

below_width : (n place : ℕ) → n < 2 ^ 128 → bit_at n place ≡ 1 → place < 128
below_width n place small has = elim (cases_lt place 128) [
  | inl below ↦ below
  | inr above ↦ absurd (omega (arith, bit_at_above n 128 place small above))
]

-- the first state from a place on
pub first_from : (n from : ℕ) → n < 2 ^ 128 → (n / 2 ^ from ≢ 0)
    → (bit_at n (from + trailing_zeros w128 (n / 2 ^ from)) ≡ 1)
    × ((i : ℕ) → from ≤ i → i < from + trailing_zeros w128 (n / 2 ^ from) → bit_at n i ≡ 1 → ⊥)
    × (from + trailing_zeros w128 (n / 2 ^ from) < 128)
first_from n from small some =
    let low = bit_at-trailing_zeros w128 (n / 2 ^ from) (omega arith) (omega (arith, div-le_self n (2 ^ from))) in
    let place = from + trailing_zeros w128 (n / 2 ^ from) in
    let has : bit_at n place ≡ 1 = subst (λ (x : ℕ). x ≡ 1) (bit_shifted n from (trailing_zeros w128 (n / 2 ^ from))) low.1 in (
      has,
      λ i behind before has.
          let place : from + (i - from) ≡ i = omega arith in
          let nothing : bit_at (n / 2 ^ from) (i - from) ≡ 0 = low.2 (i - from) (omega arith) in
          let bit : bit_at (n / 2 ^ from) (i - from) ≡ bit_at n i = subst (λ (x : ℕ). bit_at (n / 2 ^ from) (i - from) ≡ bit_at n x) place (bit_shifted n from (i - from)) in
          omega arith,
      below_width n place small has,
    )

-- no state at all
pub none_at_all : (n : ℕ) → IsTrue (nat_eq n 0) ↔ ((i : ℕ) → bit_at n i ≡ 1 → ⊥)
none_at_all n = (
  λ h i has. grind (arith, nat_tests, bit_at-zero i),
  λ none.
      let empty : n ≡ 0 = same_from_bits n 0 (λ i. omega (arith, bit_at-lt n i, bit_at-zero i, none i)) in
      grind (arith, nat_tests),
)

-- a set of the states so far that pass, beside some that it has from the start
abbrev pub HasSoFar : (ℕ → Type 0) → (ℕ → Type 0) → States → ℕ → Type 0
HasSoFar First Passes states count = (s : ℕ) → IsIn states s ↔ (First s ⊎ ((s < count) × Passes s))

pub so_far_more : (First Passes : ℕ → Type 0) (before after : States) (count : ℕ) (is : Bool) → HasSoFar First Passes before count
    → (IsTrue is ↔ Passes count) → ((s : ℕ) → IsIn after s ↔ (IsIn before s ⊎ ((s ≡ count) × IsTrue is)))
    → HasSoFar First Passes after (count + 1)
so_far_more First Passes before after count is so_far same joined = λ s. (
  λ h. elim ((joined s).0 h) [
    | inl old ↦ elim ((so_far s).0 old) [ inl first ↦ inl first | inr passed ↦ inr (omega (arith, passed.0), passed.1) ]
    | inr new ↦ inr (omega (arith, new.0), subst Passes (sym new.0) (same.0 new.1))
  ],
  λ h. elim h [
    | inl first ↦ (joined s).1 (inl ((so_far s).1 (inl first)))
    | inr passed ↦ elim (cases_lt s count) [
      | inl below ↦ (joined s).1 (inl ((so_far s).1 (inr (below, passed.1))))
      | inr above ↦
          let here : s ≡ count = omega (arith, passed.0) in
          (joined s).1 (inr (here, same.1 (subst Passes here passed.1)))
    ]
  ],
)

-- the states that those of a set so far lead to
abbrev pub LeadsSoFar : (ℕ → ℕ → Type 0) → States → States → ℕ → Type 0
LeadsSoFar Leads states after from = (t : ℕ) → IsIn after t ↔ ((s : ℕ) × (s < from) × IsIn states s × Leads s t)

pub leads_more : (Leads : ℕ → ℕ → Type 0) (states before here after : States) (from state : ℕ) → LeadsSoFar Leads states before from
    → from ≤ state → IsIn states state → ((s : ℕ) → from ≤ s → s < state → IsIn states s → ⊥)
    → ((t : ℕ) → IsIn here t ↔ Leads state t) → ((t : ℕ) → IsIn after t ↔ (IsIn before t ⊎ IsIn here t))
    → LeadsSoFar Leads states after (state + 1)
leads_more Leads states before here after from state so_far behind has none leads joined = λ t. (
  λ h. elim ((joined t).0 h) [
    | inl old ↦ let led = (so_far t).0 old in (led.0, omega (arith, led.1), led.2, led.3)
    | inr new ↦ (state, omega arith, has, (leads t).0 new)
  ],
  λ h. elim (cases_lt h.0 from) [
    | inl below ↦ (joined t).1 (inl ((so_far t).1 (h.0, below, h.2, h.3)))
    | inr above ↦ elim (cases_lt h.0 state) [
      | inl between ↦ absurd (none h.0 above between h.2)
      | inr later ↦
          let same : h.0 ≡ state = omega (arith, h.1) in
          (joined t).1 (inr ((leads t).1 (subst (λ (s : ℕ). Leads s t) same h.3)))
    ]
  ],
)

-- no state of the set is left: what those so far lead to is what all lead to
pub leads_all : (Leads : ℕ → ℕ → Type 0) (states after : States) (from : ℕ) → LeadsSoFar Leads states after from
    → ((s : ℕ) → from ≤ s → IsIn states s → ⊥) → (t : ℕ) → IsIn after t ↔ ((s : ℕ) × IsIn states s × Leads s t)
leads_all Leads states after from so_far none t = (
  λ h. let led = (so_far t).0 h in (led.0, led.2, led.3),
  λ h. elim (cases_lt h.0 from) [
    | inl below ↦ (so_far t).1 (h.0, below, h.1, h.2)
    | inr above ↦ absurd (none h.0 above h.1)
  ],
)
