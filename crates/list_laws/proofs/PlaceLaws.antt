-- Which item stands at a place of a list: in a list that grew at its end, and where all items are apart.
use Rattle.std.proofs.Common.{◌≡◌, ◌≢◌, ◌⊎◌, ◌<◌, ℕ, zero, suc, inl, inr, List, [], ◌∷◌, ◌++◌, length, Some}
use Rattle.std.proofs.Common.{refl, sym, ap, ◌∙◌, subst, append_assoc, arith}
use Rattle.std.specs.List.{slice_get, AllPairs, Contains}
use Rattle.std.proofs.lemmas.Bool.{cases_lt}
use Rattle.std.proofs.lemmas.List.Elements.{Contains-append_left}
use Rattle.std.proofs.lemmas.Option.{none-some, same_Some, slice_get_within, slice_get-get_or, get_or_from_slice_get}
use Rattle.lore_lists.specs.Lists.{Extends}

pub Contains-from_place : {X : Type 0} (xs : List X) (k : ℕ) (x : X) → slice_get xs k ≡ Some x → Contains xs x
Contains-from_place xs k x at = (k, slice_get_within xs k x at, get_or_from_slice_get xs k x x at)

pub place_of_member : {X : Type 0} (xs : List X) (x : X) → Contains xs x → (k : ℕ) × (slice_get xs k ≡ Some x)
place_of_member xs x at = (at.0, slice_get-get_or xs at.0 x at.1 ∙ ap Some at.2)

pub slice_get-append_left : {X : Type 0} (xs ys : List X) (k : ℕ) (x : X) → slice_get xs k ≡ Some x
    → slice_get (xs ++ ys) k ≡ Some x
slice_get-append_left [] ys k x at = absurd (none-some x at)
slice_get-append_left (first ∷ xs) ys zero x at = at
slice_get-append_left (first ∷ xs) ys (suc k) x at = slice_get-append_left xs ys k x at

pub slice_get-push : {X : Type 0} (xs : List X) (x : X) → slice_get (xs ++ x ∷ []) (length xs) ≡ Some x
slice_get-push [] x = refl
slice_get-push (first ∷ xs) x = slice_get-push xs x

-- what stands at a place stood there before the last item came, or is the last item
pub slice_get-push_cases : {X : Type 0} (xs : List X) (last : X) (k : ℕ) (x : X) → slice_get (xs ++ last ∷ []) k ≡ Some x
    → (slice_get xs k ≡ Some x) ⊎ ((k ≡ length xs) × (last ≡ x))
slice_get-push_cases [] last zero x at = inr (refl, same_Some last x at)
slice_get-push_cases [] last (suc k) x at = absurd (none-some x at)
slice_get-push_cases (first ∷ xs) last zero x at = inl at
slice_get-push_cases (first ∷ xs) last (suc k) x at = elim (slice_get-push_cases xs last k x at) [
  | inl before ↦ inl before
  | inr here ↦ inr (ap suc here.0, here.1)
]

pub Extends-trans : {X : Type 0} (xs ys zs : List X) → Extends xs ys → Extends ys zs → Extends xs zs
Extends-trans {X} xs ys zs first second =
    (first.0 ++ second.0, second.1 ∙ ap (λ (l : List X). l ++ second.0) first.1 ∙ append_assoc xs first.0 second.0)

pub Contains-extends : {X : Type 0} (old new : List X) (x : X) → Extends old new → Contains old x → Contains new x
Contains-extends {X} old new x extends at =
    subst (λ (l : List X). Contains l x) (sym extends.1) (Contains-append_left old extends.0 x at)

-- the items at two places are a pair
pub pair_at : {X : Type 0} (R : X → X → Type 0) (xs : List X) (i j : ℕ) (x y : X) → AllPairs R xs → i < j
    → slice_get xs i ≡ Some x → slice_get xs j ≡ Some y → R x y
pair_at R xs i j x y pairs less first second =
    let within = slice_get_within xs j y second in
    let one = get_or_from_slice_get xs i x x first in
    let two = get_or_from_slice_get xs j y x second in
    rw (one, two) at (pairs i j x less within)

-- where all items are apart, none stands at two places
pub one_place : {X : Type 0} (xs : List X) → AllPairs (λ a b. a ≢ b) xs → (i j : ℕ) (x : X)
    → slice_get xs i ≡ Some x → slice_get xs j ≡ Some x → i ≡ j
one_place xs apart i j x first second = elim (cases_lt i j) [
  | inl before ↦ absurd (pair_at (λ a b. a ≢ b) xs i j x x apart before first second refl)
  | inr behind ↦ elim (cases_lt j i) [
    | inl before ↦ absurd (pair_at (λ a b. a ≢ b) xs j i x x apart before second first refl)
    | inr equal ↦ omega arith
  ]
]
