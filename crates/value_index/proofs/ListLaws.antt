-- Where items go in an order, each before a place goes before the one there.
use Rattle.std.proofs.Common.{ℕ, ◌<◌, List, length, get_or, take}
use Rattle.std.proofs.Common.{AllPairs, Contains, subst, sym, ◌∙◌, arith, length-take}
use Rattle.std.proofs.lemmas.List.{get_or-take, get_or_default}

-- an item before a place stands in an order before the one there
pub AllPairs-before : {X : Type 0} (R : X → X → Type 0) (xs : List X) → AllPairs R xs → (i : ℕ) (d : X) → i < length xs
    → (x : X) → Contains (take i xs) x → R x (get_or xs i d)
AllPairs-before R xs pairs i d lt x at =
    let below : at.0 < i = omega (arith, at.1, length-take i xs) in
    let read = sym (get_or-take i xs at.0 x below) ∙ at.2 in
    let here = pairs at.0 i x below lt in
    subst (λ y. R y (get_or xs i d)) read (subst (λ y. R (get_or xs at.0 x) y) (get_or_default xs i x d lt) here)
