-- What a comparison says: of numbers, and of items in a total order.
use Rattle.std.proofs.Common.{◌≡◌, ◌==◌, ℕ, ◌<◌, ◌≤◌, true, Less, Equal, Greater, refl, sym, ap, ◌∙◌, arith}
use Rattle.std.specs.declared.cmp.Ordering.{Ordering}
use Rattle.std.specs.Cmp.{IsTotalOrder}
use Rattle.std.specs.Ordering.{nat_cmp, is_eq, ordering_index}
use Rattle.std.proofs.lemmas.Bool.{true≢false}
use Rattle.std.proofs.lemmas.Bool.Decides.{nat_tests}
use Rattle.std.proofs.lemmas.Cmp.{alike_right}

pub eqb_itself : (n : ℕ) → (n == n) ≡ true
eqb_itself n = grind (arith, nat_tests)

pub less_from_cmp : (a b : ℕ) → nat_cmp a b ≡ Less → a < b
less_from_cmp a b less = grind (arith, nat_tests)

pub same_from_cmp : (a b : ℕ) → nat_cmp a b ≡ Equal → a ≡ b
same_from_cmp a b equal = grind (arith, nat_tests)

pub Equal-from_test : (o : Ordering) → is_eq o ≡ true → o ≡ Equal
Equal-from_test Less is = absurd (true≢false (sym is))
Equal-from_test Equal is = refl
Equal-from_test Greater is = absurd (true≢false (sym is))

module _ {X : Type 0} (cmp : X → X → Ordering) (total : IsTotalOrder cmp) where
  -- of two items compared with a third the later one compares no lower
  pub comparison_rises : (a b x : X) → cmp a b ≡ Less → ordering_index (cmp a x) ≤ ordering_index (cmp b x)
  comparison_rises a b x less =
      elim (cmp b x) as (λ o. cmp b x ≡ o → ordering_index (cmp a x) ≤ ordering_index o) [
        | Less ↦ λ is. omega (arith, ap ordering_index (total.trans a b x less is))
        | Equal ↦ λ is. omega (arith, ap ordering_index (sym (alike_right total b x a is) ∙ less))
        | Greater ↦ λ is. elim (cmp a x) as (λ o. ordering_index o ≤ 2) [
          | Less ↦ omega arith
          | Equal ↦ omega arith
          | Greater ↦ omega arith
        ]
      ] refl
