-- Parts of a list: its front and what is behind it, what a filter keeps, and what is made of each item.
use Rattle.std.proofs.Common.{◌≡◌, ◌∙◌, ℕ, ◌+◌, ◌<◌, Bool, true, false, List, [], ◌∷◌, ◌++◌, length, get_or, take, drop}
use Rattle.std.proofs.Common.{map, refl, sym, ap, subst, arith, length-take, length-drop}
use Rattle.std.specs.List.{All, AllWithin, filter}
use Rattle.std.proofs.lemmas.List.{take_more, drop_more, map-append, get_or-take, get_or-drop}
use Rattle.std.proofs.lemmas.List.Elements.{All-tail}

-- ---- one item more of a front, as it was read
pub take_more_read : {X : Type 0} (xs : List X) (i : ℕ) (x : X) → i < length xs → x ≡ get_or xs i x
    → take (i + 1) xs ≡ take i xs ++ x ∷ []
take_more_read xs i x within is = take_more xs i x within ∙ ap (λ y. take i xs ++ y ∷ []) (sym is)

pub drop_more_read : {X : Type 0} (xs : List X) (i : ℕ) (x : X) → i < length xs → x ≡ get_or xs i x
    → drop i xs ≡ x ∷ drop (i + 1) xs
drop_more_read xs i x within is = drop_more xs i x within ∙ ap (λ y. y ∷ drop (i + 1) xs) (sym is)

pub map_more_read : {X Y : Type 0} (f : X → Y) (xs : List X) (i : ℕ) (x : X) → i < length xs → x ≡ get_or xs i x
    → map f (take (i + 1) xs) ≡ map f (take i xs) ++ f x ∷ []
map_more_read f xs i x within is = ap (map f) (take_more_read xs i x within is) ∙ map-append f (take i xs) (x ∷ [])

-- ---- what holds of places, of a front and of what is behind it
pub All-take_within : {X : Type 0} (P : X → Type 0) (xs : List X) (n : ℕ) → AllWithin P xs 0 n → All P (take n xs)
All-take_within P xs n each k d within =
    let below : k < n = omega (arith, length-take n xs) in
    subst P (sym (get_or-take n xs k d below)) (each k d (omega arith) below)

pub All-drop_within : {X : Type 0} (P : X → Type 0) (xs : List X) (n : ℕ) → AllWithin P xs n (length xs)
    → All P (drop n xs)
All-drop_within P xs n each k d within =
    subst P (sym (get_or-drop n xs k d)) (each (n + k) d (omega arith) (omega (arith, length-drop n xs)))

-- ---- a filter that all items pass, and one that none passes
pub filter_all : {X : Type 0} (p : X → Bool) (xs : List X) → All (λ x. p x ≡ true) xs → filter p xs ≡ xs
filter_all p [] all = refl
filter_all p (x ∷ xs) all =
    rw (all 0 x (omega arith)) (ap (λ l. x ∷ l) (filter_all p xs (All-tail (λ y. p y ≡ true) x xs all)))

pub filter_none : {X : Type 0} (p : X → Bool) (xs : List X) → All (λ x. p x ≡ false) xs → filter p xs ≡ []
filter_none p [] none = refl
filter_none p (x ∷ xs) none =
    rw (none 0 x (omega arith)) (filter_none p xs (All-tail (λ y. p y ≡ false) x xs none))

pub map-map : {X Y Z : Type 0} (f : X → Y) (g : Y → Z) (xs : List X) → map g (map f xs) ≡ map (λ x. g (f x)) xs
map-map f g [] = refl
map-map f g (x ∷ xs) = ap (λ l. g (f x) ∷ l) (map-map f g xs)
