-- Two lists whose items go in pairs.
use Rattle.std.proofs.Common.{◌≡◌, ℕ, zero, suc, List, [], ◌∷◌, map, Some, refl, subst}
use Rattle.std.specs.List.{AllZip, slice_get}
use Rattle.std.proofs.lemmas.Option.{none-some, same_Some}

-- what goes in pairs with what is made of each item
pub AllZip-map : {X Y Z : Type 0} (R : Y → Z → Type 0) (f : X → Y) (xs : List X) (zs : List Z)
    → AllZip (λ x z. R (f x) z) xs zs → AllZip R (map f xs) zs
AllZip-map R f [] [] pairs = tt
AllZip-map R f [] (z ∷ zs) pairs = pairs
AllZip-map R f (x ∷ xs) [] pairs = pairs
AllZip-map R f (x ∷ xs) (z ∷ zs) pairs = (pairs.0, AllZip-map R f xs zs pairs.1)

-- at the place of an item of the one list stands one of the other
pub AllZip-place : {X Y : Type 0} (R : X → Y → Type 0) (xs : List X) (ys : List Y) (k : ℕ) (x : X) → AllZip R xs ys
    → slice_get xs k ≡ Some x → (y : Y) × (slice_get ys k ≡ Some y) × R x y
AllZip-place R [] ys k x pairs at = absurd (none-some x at)
AllZip-place R (first ∷ xs) [] k x pairs at = absurd pairs
AllZip-place R (first ∷ xs) (y ∷ ys) zero x pairs at = (y, refl, subst (λ z. R z y) (same_Some first x at) pairs.0)
AllZip-place R (first ∷ xs) (y ∷ ys) (suc k) x pairs at = AllZip-place R xs ys k x pairs.1 at
