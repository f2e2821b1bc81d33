-- Lists that are tested item by item, and lists in an order that is told by neighbours.
use Rattle.std.proofs.Common.{◌≡◌, ◌↔◌, ℕ, zero, suc, ◌+◌, ◌<◌, Bool, true, false, true≢false, List, [], ◌∷◌, length, get_or, All, AllPairs, Decides, refl, sym, ◌∙◌, subst, inl, inr, arith}
use Rattle.std.specs.Bool.{IsTrue}
use Rattle.std.specs.List.{AllAdjacentBelow, IsAllAdjacentAnswer}
use Rattle.std.proofs.lemmas.Bool.{cases_lt}
use Rattle.std.proofs.lemmas.List.{get_or_default}

-- one item fails, so not all pass
pub refuted : {X : Type 0} (P : X → Type 0) (xs : List X) (i : ℕ) (x : X) → i < length xs → x ≡ get_or xs i x → (P x → ⊥) → All P xs → ⊥
refuted P xs i x lt is fails all = fails (subst P (sym is) (all i x lt))

pub denied : {X : Type 0} (P : X → Type 0) (xs : List X) (i : ℕ) (x : X) → i < length xs → x ≡ get_or xs i x → (P x → ⊥) → IsTrue false ↔ All P xs
denied P xs i x lt is fails = (λ h. absurd (true≢false (sym h)), λ all. absurd (refuted P xs i x lt is fails all))

-- what cannot be is told so
pub told_false : {P : Type 0} → (P → ⊥) → IsTrue false ↔ P
told_false fails = (λ h. absurd (true≢false (sym h)), λ p. absurd (fails p))

pub denied_at : {X : Type 0} (P : X → Type 0) (xs : List X) (i : ℕ) (d : X) → i < length xs → (P (get_or xs i d) → ⊥) → IsTrue false ↔ All P xs
denied_at P xs i d lt fails = (λ h. absurd (true≢false (sym h)), λ all. absurd (fails (all i d lt)))

-- one item more passes
pub passed_at : {X : Type 0} (P : X → Type 0) (xs : List X) (i : ℕ) (x : X) → i < length xs → P (get_or xs i x)
    → ((k : ℕ) (d : X) → k < i → P (get_or xs k d)) → (k : ℕ) (d : X) → k < i + 1 → P (get_or xs k d)
passed_at P xs i x lt passes before k d below = elim (cases_lt k i) [
  | inl early ↦ before k d early
  | inr late ↦ (
      let same : i ≡ k = omega (arith, below, late) in
      subst (λ (n : ℕ). P (get_or xs n d)) same (subst P (get_or_default xs i x d lt) passes))
]

pub passed : {X : Type 0} (P : X → Type 0) (xs : List X) (i : ℕ) (x : X) → i < length xs → x ≡ get_or xs i x → P x
    → ((k : ℕ) (d : X) → k < i → P (get_or xs k d)) → (k : ℕ) (d : X) → k < i + 1 → P (get_or xs k d)
passed P xs i x lt is passes before = passed_at P xs i x lt (subst P is passes) before

-- where each item is followed by the next in a relation that goes on, it is followed by all later ones
module _ {X : Type 0} (R : X → X → Type 0) (trans : (a b c : X) → R a b → R b c → R a c) where
  pairs_from_next : (xs : List X) → AllAdjacentBelow R xs (length xs) → AllPairs R xs
  pairs_from_next xs next i j d lt len = by j lt len
    where
      by : (j : ℕ) → i < j → j < length xs → R (get_or xs i d) (get_or xs j d)
      by zero lt len = absurd (omega (arith, lt))
      by (suc k) lt len =
          let one : k + 1 ≡ suc k = omega arith in
          let step : R (get_or xs k d) (get_or xs (suc k) d) = subst (λ (n : ℕ). R (get_or xs k d) (get_or xs n d)) one (next k d (omega (arith, len))) in
          elim (cases_lt i k) [
            | inl before ↦ trans (get_or xs i d) (get_or xs k d) (get_or xs (suc k) d) (by k before (omega (arith, len))) step
            | inr after ↦ (let same : k ≡ i = omega (arith, lt, after) in subst (λ (n : ℕ). R (get_or xs n d) (get_or xs (suc k) d)) same step)
          ]

  next_fails : (xs : List X) (k : ℕ) → k + 1 < length xs → ((d : X) → R (get_or xs k d) (get_or xs (k + 1) d) → ⊥) → AllPairs R xs → ⊥
  next_fails [] k lt fails all = omega (arith, lt)
  next_fails (x ∷ xs) k lt fails all = fails x (all k (k + 1) x (omega arith) lt)

  -- the answer of a test of neighbours tells the order
  pub told_by_next : (test : X → X → Bool) → ((a b : X) → Decides (test a b) (R a b)) → (xs : List X) (result : Bool)
      → IsAllAdjacentAnswer (λ a b answer. answer ≡ test a b) xs result → IsTrue result ↔ AllPairs R xs
  told_by_next test tells xs true next = (λ _. pairs_from_next xs (λ k d lt. (tells (get_or xs k d) (get_or xs (k + 1) d)).0 (sym (next k d lt))), λ _. refl)
  told_by_next test tells xs false next = (
    λ h. absurd (true≢false (sym h)),
    λ all. absurd (next_fails xs next.0 next.1 (λ d holds. true≢false (sym ((tells (get_or xs next.0 d) (get_or xs (next.0 + 1) d)).1 holds) ∙ sym (next.2 d))) all),
  )
