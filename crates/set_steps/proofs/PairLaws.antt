-- What all items of a list have, and what all pairs of them have.
use Rattle.std.proofs.Common.{◌≡◌, ◌≢◌, ℕ, zero, suc, ◌+◌, ◌-◌, ◌<◌, inl, inr, List, [], ◌∷◌, ◌++◌, length, get_or, map}
use Rattle.std.proofs.Common.{AllPairs, Contains, refl, sym, ap, ◌∙◌, arith}
use Rattle.std.proofs.lemmas.Bool.{cases_lt}
use Rattle.std.proofs.lemmas.List.{get_or_default}
use Rattle.std.proofs.lemmas.List.Elements.{All-map, Contains-get_or}
use Rattle.std.proofs.lemmas.List.Kept.{AllPairs-cons}
use Rattle.lore_base.proofs.ListLaws.{AllPairs-append, AllPairs-tail, AllPairs-head}
use Rattle.lore_base.proofs.MemberLaws.{Contains-head}
use Rattle.list_laws.proofs.MemberLaws.{All-from_members}

pub some-member : {X : Type 0} (xs : List X) → xs ≢ [] → (x : X) × Contains xs x
some-member [] some = absurd (some refl)
some-member (x ∷ xs) some = (x, Contains-head x xs)

pub AllPairs-map : {X Y : Type 0} (f : X → Y) (S : X → X → Type 0) (R : Y → Y → Type 0)
    → ((a b : X) → S a b → R (f a) (f b))
    → (xs : List X) → AllPairs S xs → AllPairs R (map f xs)
AllPairs-map f S R keeps [] pairs = λ i j d less within. absurd (omega (arith, within))
AllPairs-map f S R keeps (x ∷ xs) pairs =
    AllPairs-cons R (f x) (map f xs)
    (All-map (R (f x)) f xs (All-from_members (λ y. R (f x) (f y)) xs
    (λ y there. keeps x y (AllPairs-head S x xs pairs y there))))
    (AllPairs-map f S R keeps xs (AllPairs-tail S x xs pairs))

-- one item more at the end, that all others pass with
pub AllPairs-push : {X : Type 0} (R : X → X → Type 0) (xs : List X) (x : X) → AllPairs R xs
    → ((y : X) → Contains xs y → R y x) → AllPairs R (xs ++ x ∷ [])
AllPairs-push R xs x pairs last =
    AllPairs-append R xs (x ∷ []) pairs (λ i j d less within. absurd (omega (arith, less, within)))
    (λ i j d first second.
    let here : j ≡ 0 = omega (arith, second) in
    rw here (last (get_or xs i d) (Contains-get_or xs i d first)))

-- where each item passes with the next one, all pairs do
pub AllPairs-from_next : {X : Type 0} (R : X → X → Type 0) → ((a b c : X) → R a b → R b c → R a c) → (xs : List X)
    → ((k : ℕ) (d : X) → k + 1 < length xs → R (get_or xs k d) (get_or xs (k + 1) d)) → AllPairs R xs
AllPairs-from_next R trans xs next i zero d less within = absurd (omega (arith, less))
AllPairs-from_next R trans xs next i (suc j) d less within =
    let at : suc j ≡ j + 1 = omega arith in
    let last : R (get_or xs j d) (get_or xs (suc j) d) = rw at (next j d (omega (arith, within))) in
    elim (cases_lt i j) [
      | inl before ↦ trans (get_or xs i d) (get_or xs j d) (get_or xs (suc j) d)
          (AllPairs-from_next R trans xs next i j d before (omega (arith, within))) last
      | inr late ↦ let here : i ≡ j = omega (arith, late, less) in rw here last
    ]

pub next-pair : {X : Type 0} (R : X → X → Type 0) (xs : List X) (place : ℕ) (e f : X) → place < length xs
    → R (get_or xs (place - 1) e) (get_or xs place f)
    → (k : ℕ) (d : X) → k + 1 ≡ place → R (get_or xs k d) (get_or xs (k + 1) d)
next-pair R xs place e f within less k d here =
    let before : place - 1 ≡ k = omega (arith, here) in
    let first : get_or xs k d ≡ get_or xs (place - 1) e =
    get_or_default xs k d e (omega (arith, within, here)) ∙ ap (λ n. get_or xs n e) (sym before) in
    let second : get_or xs (k + 1) d ≡ get_or xs place f =
    get_or_default xs (k + 1) d f (omega (arith, within, here)) ∙ ap (λ n. get_or xs n f) here in
    rw (first, second) less
