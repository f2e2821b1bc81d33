-- A list whose items are printed one after another, in runs that are printed as they are and items between them.
use Rattle.std.proofs.Common.{◌≡◌, ℕ, ◌+◌, ◌-◌, ◌<◌, ◌≤◌, List, [], ◌∷◌, ◌++◌, length, get_or, take, drop, sym, ap, ◌∙◌, arith}
use Rattle.std.specs.List.{flat_map, between}
use Rattle.std.proofs.lemmas.Grind.{flat_map-append}
use Rattle.std.proofs.lemmas.List.{take-append-drop, take_more, flat_map_more}
use Rattle.std.proofs.lemmas.List.Edits.{between_more}
use Rattle.std.proofs.Math.Seq.{take-add}

-- the items before a place, and the one there
pub printed_next : {X A : Type 0} (f : X → List A) (xs : List X) (i : ℕ) (d : X) → i < length xs
    → flat_map f (take i xs) ++ f (get_or xs i d) ≡ flat_map f (take (i + 1) xs)
printed_next f xs i d within = flat_map_more f [] (take i xs) (get_or xs i d) ∙ ap (flat_map f) (sym (take_more xs i d within))

-- the items before a place, and those from it on
pub printed_rest : {X A : Type 0} (f : X → List A) (xs : List X) (i : ℕ) → flat_map f (take i xs) ++ flat_map f (drop i xs) ≡ flat_map f xs
printed_rest f xs i = sym (flat_map-append f (take i xs) (drop i xs)) ∙ ap (flat_map f) (take-append-drop i xs)

-- the items before a place, the one there, and those behind it
pub printed_around : {X A : Type 0} (f : X → List A) (xs : List X) (i : ℕ) (d : X) → i < length xs
    → (flat_map f (take i xs) ++ f (get_or xs i d)) ++ flat_map f (drop (i + 1) xs) ≡ flat_map f xs
printed_around f xs i d within = ap (λ l. l ++ flat_map f (drop (i + 1) xs)) (printed_next f xs i d within) ∙ printed_rest f xs (i + 1)

module _ {X : Type 0} (f : X → List X) (xs : List X) (from to : ℕ) where
  -- the items before a run that is printed as it is, and the run
  pub printed_run : from ≤ to → flat_map f (between from to xs) ≡ between from to xs
      → flat_map f (take from xs) ++ between from to xs ≡ flat_map f (take to xs)
  printed_run ordered plain =
      let sum : from + (to - from) ≡ to = omega arith in
      let split : take to xs ≡ take from xs ++ between from to xs = ap (λ n. take n xs) (sym sum) ∙ take-add from (to - from) xs in
      ap (λ l. flat_map f (take from xs) ++ l) (sym plain) ∙ sym (flat_map-append f (take from xs) (between from to xs)) ∙ ap (flat_map f) (sym split)

  -- a run goes on with an item that is printed as it is
  pub plain_more : (d : X) → from ≤ to → to < length xs → flat_map f (between from to xs) ≡ between from to xs
      → f (get_or xs to d) ≡ get_or xs to d ∷ [] → flat_map f (between from (to + 1) xs) ≡ between from (to + 1) xs
  plain_more d ordered within plain same =
      let more = between_more xs from to d ordered within in
      ap (flat_map f) more ∙ sym (flat_map_more f [] (between from to xs) (get_or xs to d))
      ∙ ap (λ l. l ++ f (get_or xs to d)) plain ∙ ap (λ l. between from to xs ++ l) same ∙ sym more

-- a run of no item
pub plain_none : {X : Type 0} (f : X → List X) (xs : List X) (i : ℕ) → flat_map f (between i i xs) ≡ between i i xs
plain_none f xs i = let none : i - i ≡ 0 = omega arith in ap (λ n. flat_map f (take n (drop i xs))) none ∙ ap (λ n. take n (drop i xs)) (sym none)
