-- Items at places of lists, and of lists that were mapped or grew.
use Rattle.std.proofs.Common.{◌≡◌, ℕ, ◌<◌, inl, inr, List, [], ◌∷◌, ◌++◌, length, map, Some, zero, suc, AllPairs}
use Rattle.std.proofs.Common.{Contains, refl, ap, subst, arith}
use Rattle.std.specs.List.{slice_get, AllZip}
use Rattle.std.proofs.lemmas.Bool.{cases_lt}
use Rattle.lore_base.proofs.MemberLaws.{Contains-none, Contains-head, Contains-tail, Contains-cases}
use Rattle.list_laws.proofs.PlaceLaws.{slice_get-append_left, pair_at}

pub at-grown : {X : Type 0} (xs more new : List X) (k : ℕ) (x : X) → new ≡ xs ++ more → slice_get xs k ≡ Some x
    → slice_get new k ≡ Some x
at-grown xs more new k x is at = rw is (slice_get-append_left xs more k x at)

-- within the front both have the same item
pub at-front : {X : Type 0} (xs ys : List X) (k : ℕ) (x : X) → k < length xs → slice_get (xs ++ ys) k ≡ Some x
    → slice_get xs k ≡ Some x
at-front [] ys k x less at = absurd (omega arith)
at-front (y ∷ xs) ys zero x less at = at
at-front (y ∷ xs) ys (suc k) x less at = at-front xs ys k x (omega (arith, less)) at

pub at-map : {X Y : Type 0} (f : X → Y) (xs : List X) (k : ℕ) (x : X) → slice_get xs k ≡ Some x
    → slice_get (map f xs) k ≡ Some (f x)
at-map f [] k x at = cc
at-map f (y ∷ xs) zero x at = let same : y ≡ x = cc in ap (λ z. Some (f z)) same
at-map f (y ∷ xs) (suc k) x at = at-map f xs k x at

pub at-unmap : {X Y : Type 0} (f : X → Y) (xs : List X) (k : ℕ) (y : Y) → slice_get (map f xs) k ≡ Some y
    → (x : X) × (slice_get xs k ≡ Some x) × (f x ≡ y)
at-unmap f [] k y at = cc
at-unmap f (x ∷ xs) zero y at = (x, refl, let same : f x ≡ y = cc in same)
at-unmap f (x ∷ xs) (suc k) y at = at-unmap f xs k y at

-- of items that are all apart no two places have the same
pub one-place : {X : Type 0} (xs : List X) → AllPairs (λ a b. (a ≡ b) → ⊥) xs → (i j : ℕ) (x : X)
    → slice_get xs i ≡ Some x → slice_get xs j ≡ Some x → i ≡ j
one-place xs apart i j x first second = elim (cases_lt i j) [
  | inl before ↦ absurd (pair_at (λ a b. (a ≡ b) → ⊥) xs i j x x apart before first second refl)
  | inr behind ↦ elim (cases_lt j i) [
    | inl before ↦ absurd (pair_at (λ a b. (a ≡ b) → ⊥) xs j i x x apart before second first refl)
    | inr equal ↦ omega arith
  ]
]

-- pairs of items at the same places
pub zip-left : {X Y : Type 0} (R : X → Y → Type 0) (xs : List X) (ys : List Y) (x : X) → AllZip R xs ys → Contains xs x
    → (y : Y) × Contains ys y × R x y
zip-left R [] [] x zip there = absurd (Contains-none x there)
zip-left R [] (y ∷ ys) x zip there = absurd zip
zip-left R (first ∷ xs) [] x zip there = absurd zip
zip-left {Y = Y} R (first ∷ xs) (y ∷ ys) x zip there = elim (Contains-cases first xs x there) [
  | inl same ↦ (y, Contains-head y ys, subst (λ z. R z y) same zip.0)
  | inr later ↦ (let rest = zip-left R xs ys x zip.1 later in (rest.0, Contains-tail y ys rest.0 rest.1, rest.2))
]

pub zip-right : {X Y : Type 0} (R : X → Y → Type 0) (xs : List X) (ys : List Y) (y : Y) → AllZip R xs ys
    → Contains ys y → (x : X) × Contains xs x × R x y
zip-right R [] [] y zip there = absurd (Contains-none y there)
zip-right R [] (first ∷ ys) y zip there = absurd zip
zip-right R (x ∷ xs) [] y zip there = absurd zip
zip-right R (x ∷ xs) (first ∷ ys) y zip there = elim (Contains-cases first ys y there) [
  | inl same ↦ (x, Contains-head x xs, subst (λ z. R x z) same zip.0)
  | inr later ↦ (let rest = zip-right R xs ys y zip.1 later in (rest.0, Contains-tail x xs rest.0 rest.1, rest.2))
]

pub AllZip-then : {X Y : Type 0} (R : X → Y → Type 0) (xs : List X) (ys : List Y) (x : X) (y : Y) → AllZip R xs ys
    → R x y → AllZip R (xs ++ x ∷ []) (ys ++ y ∷ [])
AllZip-then R [] [] x y zip last = (last, tt)
AllZip-then R [] (first ∷ ys) x y zip last = absurd zip
AllZip-then R (first ∷ xs) [] x y zip last = absurd zip
AllZip-then R (first ∷ xs) (second ∷ ys) x y zip last = (zip.0, AllZip-then R xs ys x y zip.1 last)

pub AllZip-weaker : {X Y : Type 0} (R S : X → Y → Type 0) → ((x : X) (y : Y) → R x y → S x y)
    → (xs : List X) (ys : List Y) → AllZip R xs ys → AllZip S xs ys
AllZip-weaker R S weaker [] [] zip = tt
AllZip-weaker R S weaker [] (y ∷ ys) zip = zip
AllZip-weaker R S weaker (x ∷ xs) [] zip = zip
AllZip-weaker R S weaker (x ∷ xs) (y ∷ ys) zip = (weaker x y zip.0, AllZip-weaker R S weaker xs ys zip.1)
