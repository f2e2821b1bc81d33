-- Slots: that of a place is the number of the range that has it, and what goes in pairs with ranges and cells.
use Rattle.std.proofs.Common.{◌≡◌, ◌≢◌, ℕ, ◌<◌, ◌≤◌, ◌+◌, List, [], ◌∷◌, ◌++◌, length, map, take, get_or, Some, All, refl, sym, subst, ap, ◌∙◌}
use Rattle.std.specs.List.{Contains, AllZip, slice_get}
use Rattle.std.specs.Option.{option_map}
use Rattle.std.proofs.lemmas.List.{take_more, take_all}
use Rattle.std.proofs.lemmas.List.Elements.{All-head, All-tail, All-map, All-more, All-contains}
use Rattle.std.proofs.lemmas.Option.{slice_get-map, slice_get_read, slice_get_within, get_or_from_slice_get}
use Rattle.lorel_bind.specs.Types.{Oid, Start, BoundStart}
use Rattle.lorel_bind.specs.Types.starts
use Rattle.lorel_bind.specs.Types.bound_starts
use Rattle.lorel_ranges.specs.Places.{quantified, Place, at_root}
use Rattle.lorel_ranges.specs.Ranges.{PlacedRange, places}
use Rattle.lorel_bind.specs.Bindings.{IsStartOfPlace, IsBoundStart}
use Rattle.lorel_bind.specs.inside.Slots.{CanStart, CanStartAny}
use Rattle.lorel_ranges.specs.Views.{place_tree, range_of, ranges_of}
use Rattle.lorel_ranges.specs.declared.select_ranges.TextRange.{TextRange}
use Rattle.lorel_ranges.proofs.ListLaws.{AllZip-append}

-- ---- lists that go in pairs
module _ {P Q : Type 0} where
  -- one more pair, of the item that is read next
  pub pairs_read : (R : P → Q → Type 0) (xs : List P) (ys : List Q) (i : ℕ) (x : P) (y : Q) → i < length xs → x ≡ get_or xs i x
      → AllZip R (take i xs) ys → R x y → AllZip R (take (i + 1) xs) (ys ++ y ∷ [])
  pairs_read R xs ys i x y low is pairs pair =
      subst (λ (front : List P). AllZip R front (ys ++ y ∷ []))
      (sym (take_more xs i x low ∙ ap (λ (z : P). take i xs ++ z ∷ []) (sym is)))
      (AllZip-append R (take i xs) (x ∷ []) ys (y ∷ []) pairs (pair, tt))

  -- all pairs, where each item is read
  pub all_pairs_read : (R : P → Q → Type 0) (whole xs : List P) (ys : List Q) (i : ℕ) → xs ≡ whole → length xs ≤ i
      → AllZip R (take i xs) ys → AllZip R whole ys
  all_pairs_read R whole xs ys i same done pairs =
      subst (λ (front : List P). AllZip R front ys) (take_all i xs done ∙ same) pairs

  -- pairs that are fit where their first item passes
  pub pairs_where : (Passes : P → Type 0) (R : P → Q → Type 0) (xs : List P) (ys : List Q) → AllZip (λ x y. Passes x → R x y) xs ys
      → All Passes xs → AllZip R xs ys
  pairs_where Passes R [] [] pairs pass = tt
  pairs_where Passes R [] (y ∷ ys) pairs pass = absurd pairs
  pairs_where Passes R (x ∷ xs) [] pairs pass = absurd pairs
  pairs_where Passes R (x ∷ xs) (y ∷ ys) pairs pass =
      (pairs.0 (All-head Passes x xs pass), pairs_where Passes R xs ys pairs.1 (All-tail Passes x xs pass))

-- pairs of what is made of the items
pub pairs_made : {X Y P Q : Type 0} (R : P → Q → Type 0) (f : X → P) (g : Y → Q) (xs : List X) (ys : List Y)
    → AllZip (λ x y. R (f x) (g y)) xs ys → AllZip R (map f xs) (map g ys)
pairs_made R f g [] [] pairs = tt
pairs_made R f g [] (y ∷ ys) pairs = absurd pairs
pairs_made R f g (x ∷ xs) [] pairs = absurd pairs
pairs_made R f g (x ∷ xs) (y ∷ ys) pairs = (pairs.0, pairs_made R f g xs ys pairs.1)

-- what holds of the item that is read next, and of those before it
pub All-read : {X : Type 0} (Passes : X → Type 0) (xs : List X) (i : ℕ) (x : X) → i < length xs → x ≡ get_or xs i x
    → All Passes (take i xs) → Passes x → All Passes (take (i + 1) xs)
All-read Passes xs i x low is pass passes = All-more Passes xs i x low pass (subst Passes is passes)

-- ---- the slot of a place
-- the number of the range that is read is the slot of its place
pub slot_read : (fused items : List TextRange) (i : ℕ) (range : TextRange) (place : Place) → items ≡ fused → i < length items
    → range ≡ get_or items i range → place_tree range.place ≡ place → slice_get (places (ranges_of fused)) i ≡ Some place
slot_read fused items i range place same low is here =
    slice_get-map (λ (range : PlacedRange). range.place) (ranges_of fused) i
    ∙ ap (option_map (λ (range : PlacedRange). range.place))
    (slice_get-map range_of fused i ∙ ap (λ (all : List TextRange). option_map range_of (slice_get all i)) (sym same)
    ∙ ap (option_map range_of) (slice_get_read items (length items) i range refl low is))
    ∙ ap (λ (p : Place). Some p) here

pub no_slot : (fused : List TextRange) (place : Place) → All (λ range. place_tree range.place ≢ place) fused
    → Contains (places (ranges_of fused)) place → ⊥
no_slot fused place none there =
    All-contains (λ p. p ≢ place) (places (ranges_of fused)) place
    (All-map (λ p. p ≢ place) (λ (range : PlacedRange). range.place) (ranges_of fused) (All-map (λ range. range.place ≢ place) range_of fused none))
    there refl

-- a place that isn't a name starts at the slot that it has
pub slot_stands : (names : List (List ℕ × Oid)) (fused : List PlacedRange) (place : Place) (slot : ℕ)
    → ((oid : Oid) → IsStartOfPlace names fused place (starts.Named oid) → ⊥)
    → (Contains (places fused) place → slice_get (places fused) slot ≡ Some place) → CanStart names fused place
    → slice_get (places fused) slot ≡ Some place
slot_stands names fused place slot unnamed at has = by has.0 has.1
  where
    by : (start : Start) → IsStartOfPlace names fused place start → slice_get (places fused) slot ≡ Some place
    by (starts.Named oid) stands = absurd (unnamed oid stands)
    by (starts.Slot own) is =
        at (own, slice_get_within (places fused) own place is, get_or_from_slice_get (places fused) own place place is)

-- in a condition, a place that isn't the object of a quantifier
pub start_outside : (names : List (List ℕ × Oid)) (fused : List PlacedRange) (place : Place)
    → ((depth : ℕ) → place ≢ at_root (quantified depth)) → CanStartAny names fused place → CanStart names fused place
start_outside names fused place outside has = by has.0 has.1
  where
    by : (start : BoundStart) → IsBoundStart names fused place start → CanStart names fused place
    by (bound_starts.Named oid) stands = (starts.Named oid, stands)
    by (bound_starts.Slot slot) stands = (starts.Slot slot, stands)
    by (bound_starts.Quantified depth) is = absurd (outside depth is)
