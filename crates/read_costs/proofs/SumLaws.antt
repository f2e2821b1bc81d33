-- Sums of costs: of two costs, of so many times a cost, of a higher one, and of the items that a test picks.
use Rattle.std.proofs.Common.{◌≡◌, ◌∙◌, ℕ, ◌+◌, ◌*◌, ◌≤◌, Bool, true, false, cond, List, [], ◌∷◌, refl, sym, ap}
use Rattle.std.proofs.Common.{mul-add, zero-add, arith}
use Rattle.std.specs.List.{sum_by, filter}
use Rattle.std.proofs.lemmas.List.Sums.{sum_by-cons}

pub sum_by-plus : {X : Type 0} (f g : X → ℕ) (xs : List X) → sum_by (λ x. f x + g x) xs ≡ sum_by f xs + sum_by g xs
sum_by-plus f g [] = refl
sum_by-plus {X} f g (x ∷ xs) =
    let rest = sum_by-plus f g xs in
    omega (arith, sum_by-cons (λ (x : X). f x + g x) x xs, sum_by-cons f x xs, sum_by-cons g x xs, rest)

pub sum_by-times : {X : Type 0} (k : ℕ) (f : X → ℕ) (xs : List X) → sum_by (λ x. k * f x) xs ≡ k * sum_by f xs
sum_by-times k f [] = omega arith
sum_by-times {X} k f (x ∷ xs) =
    let rest = sum_by-times k f xs in
    sum_by-cons (λ (x : X). k * f x) x xs ∙ ap (λ n. k * f x + n) rest ∙ sym (mul-add k (f x) (sum_by f xs))
    ∙ ap (λ n. k * n) (sym (sum_by-cons f x xs))

pub sum_by-wider : {X : Type 0} (f g : X → ℕ) → ((x : X) → f x ≤ g x) → (xs : List X) → sum_by f xs ≤ sum_by g xs
sum_by-wider f g le [] = omega arith
sum_by-wider {X} f g le (x ∷ xs) =
    let rest = sum_by-wider f g le xs in
    let first = le x in
    omega (arith, sum_by-cons f x xs, sum_by-cons g x xs, rest, first)

pub sum_by-picked : {X : Type 0} (cost : X → ℕ) (test : X → Bool) (xs : List X)
    → sum_by (λ x. cond (test x) (cost x) 0) xs ≡ sum_by cost (filter test xs)
sum_by-picked cost test [] = refl
sum_by-picked {X} cost test (x ∷ xs) =
    let rest = sum_by-picked cost test xs in
    sum_by-cons (λ (y : X). cond (test y) (cost y) 0) x xs
    ∙ (elim (test x) as (λ b. cond b (cost x) 0 + sum_by (λ y. cond (test y) (cost y) 0) xs ≡ sum_by cost (cond b (x ∷ filter test xs) (filter test xs))) [
      | true ↦ ap (λ n. cost x + n) rest ∙ sym (sum_by-cons cost x (filter test xs))
      | false ↦ zero-add (sum_by (λ y. cond (test y) (cost y) 0) xs) ∙ rest
    ])
