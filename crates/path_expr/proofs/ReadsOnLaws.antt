-- Sets of states of which some come before the end, and sets of which none does.
use Rattle.std.proofs.Common.{◌≡◌, not, ℕ, ◌<◌, inl, inr, true, false, true≢false, bit_and, min, sym, ap, ◌∙◌, arith}
use Rattle.std.specs.Int.{bit_at, w64, trailing_zeros}
use Rattle.std.proofs.lemmas.Bool.Decides.{eqb_tells}
use Rattle.std.proofs.lemmas.Nat.{and_le_r}
use Rattle.std.proofs.lemmas.Nat.Bits.{bit_at-lt, bit_at_and, bit_at_ones, bit_at-zero, bit_at-trailing_zeros}
use Rattle.path_expr.specs.Types.{States, END}
use Rattle.path_expr.specs.Machines.{IsIn, reads_on}

before_end : ℕ → ℕ
before_end n = bit_and n 18_446_744_073_709_551_615

bit_before : (n i : ℕ) → i < 64 → bit_at (before_end n) i ≡ bit_at n i
unfolding before_end
bit_before n i below =
    bit_at_and n 18_446_744_073_709_551_615 i ∙ ap (min (bit_at n i)) (bit_at_ones 64 i below) ∙ low (bit_at n i) (bit_at-lt n i)
  where
    low : (x : ℕ) → x < 2 → min x 1 ≡ x
    low x h = omega arith

-- no state comes before the end
pub reads_on-false : (states : States) → reads_on states ≡ false → (state : ℕ) → state < END → IsIn states state → ⊥
unfolding before_end
reads_on-false states none state below within = elim (eqb_tells (before_end states.0) 0) [
  | inl empty ↦ omega (arith, within, sym (bit_before states.0 state below), ap (λ n. bit_at n state) empty.1, bit_at-zero state)
  | inr some ↦ true≢false (sym (ap not some.0) ∙ none)
]

-- some state comes before the end
pub reads_on-true : (states : States) → reads_on states ≡ true → (state : ℕ) × IsIn states state × (state < END)
unfolding before_end
reads_on-true states some = elim (eqb_tells (before_end states.0) 0) [
  | inl empty ↦ absurd (true≢false (sym some ∙ ap not empty.0))
  | inr more ↦
      let low = bit_at-trailing_zeros w64 (before_end states.0) (omega (arith, more.1)) (omega (arith, and_le_r states.0 18_446_744_073_709_551_615)) in
      (trailing_zeros w64 (before_end states.0), sym (bit_before states.0 (trailing_zeros w64 (before_end states.0)) low.0) ∙ low.1, low.0)
]
