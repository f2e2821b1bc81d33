-- Ranges in order: what stands before a range and behind it, and one more range at the end.
use Rattle.std.proofs.Common.{◌≢◌, inl, inr, List, [], ◌∷◌, ◌++◌, All, subst, sym, ◌∙◌, append_assoc}
use Rattle.std.specs.List.{Contains}
use Rattle.std.proofs.lemmas.List.{append-nil}
use Rattle.std.proofs.lemmas.List.Elements.{All-contains, All-nil, All-cons, All-head, All-tail, All-weaker, Contains-append_left, Contains-push, Contains-push_cases}
use Rattle.lore_base.proofs.MemberLaws.{Contains-same}
use Rattle.lorel_ranges.specs.Places.{Place}
use Rattle.lorel_ranges.specs.Ranges.{PlacedRange, places, joined_range}
use Rattle.lorel_ranges.specs.inside.Orders.{IsOpen, IsFound, IsPlaced, AreOrdered}
use Rattle.lorel_ranges.proofs.ListLaws.{Contains-between}

-- a start that is found among some places is found among more
pub IsFound-wider : (earlier wider : List Place) (start : Place) → ((place : Place) → Contains earlier place → Contains wider place)
    → IsFound earlier start → IsFound wider start
IsFound-wider earlier wider start within (inl named) = inl named
IsFound-wider earlier wider start within (inr at) = inr (within start at)

-- a place that is open and not among these is no start that is found there
pub unfound : (earlier : List Place) (start place : Place) → IsFound earlier start → IsOpen place → (Contains earlier place → ⊥) → start ≢ place
unfound earlier start place (inl named) is_open absent same = is_open.unnamed (named.0, sym same ∙ named.1)
unfound earlier start place (inr at) is_open absent same = absent (Contains-same earlier start place same at)

-- what is behind stands at new places
pub new_places : (earlier : List Place) (ranges : List PlacedRange) → AreOrdered earlier ranges → All (λ range. Contains earlier range.place → ⊥) ranges
new_places earlier [] ordered = All-nil (λ range. Contains earlier range.place → ⊥)
new_places earlier (range ∷ others) ordered =
    All-cons (λ later. Contains earlier later.place → ⊥) range others ordered.0.is_new
    (All-weaker (λ later. Contains (earlier ++ range.place ∷ []) later.place → ⊥) (λ later. Contains earlier later.place → ⊥)
    (λ later absent at. absent (Contains-append_left earlier (range.place ∷ []) later.place at)) others
    (new_places (earlier ++ range.place ∷ []) others ordered.1))

pub open_places : (earlier : List Place) (ranges : List PlacedRange) → AreOrdered earlier ranges → All (λ range. IsOpen range.place) ranges
open_places earlier [] ordered = All-nil (λ range. IsOpen range.place)
open_places earlier (range ∷ others) ordered =
    All-cons (λ later. IsOpen later.place) range others ordered.0.is_open (open_places (earlier ++ range.place ∷ []) others ordered.1)

-- behind a range no other has its place
pub other_places : (earlier : List Place) (range : PlacedRange) (others : List PlacedRange) → AreOrdered earlier (range ∷ others)
    → All (λ other. other.place ≢ range.place) others
other_places earlier range others ordered =
    All-weaker (λ later. Contains (earlier ++ range.place ∷ []) later.place → ⊥) (λ later. later.place ≢ range.place)
    (λ later absent same. absent (Contains-same (earlier ++ range.place ∷ []) range.place later.place (sym same) (Contains-push earlier range.place)))
    others (new_places (earlier ++ range.place ∷ []) others ordered.1)

-- the order of what stands behind some ranges
pub AreOrdered-behind : (earlier : List Place) (front back : List PlacedRange) → AreOrdered earlier (front ++ back) → AreOrdered (earlier ++ places front) back
AreOrdered-behind earlier [] back ordered = subst (λ (all : List Place). AreOrdered all back) (sym (append-nil earlier)) ordered
AreOrdered-behind earlier (range ∷ front) back ordered =
    subst (λ (all : List Place). AreOrdered all back) (append_assoc earlier (range.place ∷ []) (places front))
    (AreOrdered-behind (earlier ++ range.place ∷ []) front back ordered.1)

-- ranges in order go on by one that is placed behind them
pub AreOrdered-push : (earlier : List Place) (ranges : List PlacedRange) (range : PlacedRange) → AreOrdered earlier ranges
    → IsPlaced (earlier ++ places ranges) range → AreOrdered earlier (ranges ++ range ∷ [])
AreOrdered-push earlier [] range ordered placed = (subst (λ (all : List Place). IsPlaced all range) (append-nil earlier) placed, tt)
AreOrdered-push earlier (first ∷ ranges) range ordered placed = (
  ordered.0,
  AreOrdered-push (earlier ++ first.place ∷ []) ranges range ordered.1
      (subst (λ (all : List Place). IsPlaced all range) (sym (append_assoc earlier (first.place ∷ []) (places ranges))) placed),
)

module _ (earlier : List Place) (front : List PlacedRange) (range : PlacedRange) (back : List PlacedRange) (ordered : AreOrdered earlier (front ++ range ∷ back)) where
  pub open_at : IsOpen range.place
  open_at = All-contains (λ r. IsOpen r.place) (front ++ range ∷ back) range (open_places earlier (front ++ range ∷ back) ordered)
      (Contains-between front range back)

  pub new_at : Contains earlier range.place → ⊥
  new_at = All-contains (λ r. Contains earlier r.place → ⊥) (front ++ range ∷ back) range
      (new_places earlier (front ++ range ∷ back) ordered) (Contains-between front range back)

  pub own_start : range.start ≢ range.place
  own_start =
      let placed = (AreOrdered-behind earlier front (range ∷ back) ordered).0 in
      unfound (earlier ++ places front) range.start range.place placed.found placed.is_open placed.is_new

-- no range starts at a later one
pub starts_before : (earlier : List Place) (front : List PlacedRange) (range : PlacedRange) (back : List PlacedRange) → AreOrdered earlier (front ++ range ∷ back)
    → All (λ other. other.start ≢ range.place) front
starts_before earlier [] range back ordered = All-nil (λ other. other.start ≢ range.place)
starts_before earlier (first ∷ front) range back ordered =
    All-cons (λ other. other.start ≢ range.place) first front
    (unfound earlier first.start range.place ordered.0.found (open_at earlier (first ∷ front) range back ordered) (new_at earlier (first ∷ front) range back ordered))
    (starts_before (earlier ++ first.place ∷ []) front range back ordered.1)

-- no other range has the place of a range
pub placed_once : (earlier : List Place) (front : List PlacedRange) (range : PlacedRange) (back : List PlacedRange) → AreOrdered earlier (front ++ range ∷ back)
    → All (λ other. other.place ≢ range.place) front × All (λ other. other.place ≢ range.place) back
placed_once earlier [] range back ordered = (All-nil (λ other. other.place ≢ range.place), other_places earlier range back ordered)
placed_once earlier (first ∷ front) range back ordered =
    let later = placed_once (earlier ++ first.place ∷ []) front range back ordered.1 in
    let apart = All-contains (λ other. other.place ≢ first.place) (front ++ range ∷ back) range
    (other_places earlier first (front ++ range ∷ back) ordered) (Contains-between front range back) in
    (All-cons (λ other. other.place ≢ range.place) first front (λ same. apart (sym same)) later.0, later.1)

-- ---- one place less
-- the second places are the first, but for one that may be gone
pub record Drops (gone : Place) (earlier fewer : List Place) : Type 0 where
  pub within : (place : Place) → Contains fewer place → Contains earlier place
  pub kept : (place : Place) → place ≢ gone → Contains earlier place → Contains fewer place

Drops-push : (gone : Place) (earlier fewer : List Place) (place : Place) → Drops gone earlier fewer → Drops gone (earlier ++ place ∷ []) (fewer ++ place ∷ [])
Drops-push gone earlier fewer place drops = record {
  within = λ other at. elim (Contains-push_cases fewer place other at) [
    | inl before ↦ Contains-append_left earlier (place ∷ []) other (drops.within other before)
    | inr same ↦ Contains-same (earlier ++ place ∷ []) place other same (Contains-push earlier place)
  ];
  kept = λ other apart at. elim (Contains-push_cases earlier place other at) [
    | inl before ↦ Contains-append_left fewer (place ∷ []) other (drops.kept other apart before)
    | inr same ↦ Contains-same (fewer ++ place ∷ []) place other same (Contains-push fewer place)
  ];
}

Drops-last : (gone : Place) (earlier : List Place) → Drops gone (earlier ++ gone ∷ []) earlier
Drops-last gone earlier = record {
  within = λ other at. Contains-append_left earlier (gone ∷ []) other at;
  kept = λ other apart at. elim (Contains-push_cases earlier gone other at) [
    | inl before ↦ before
    | inr same ↦ absurd (apart (sym same))
  ];
}

IsFound-fewer : (gone : Place) (earlier fewer : List Place) (start : Place) → Drops gone earlier fewer → start ≢ gone
    → IsFound earlier start → IsFound fewer start
IsFound-fewer gone earlier fewer start drops apart (inl named) = inl named
IsFound-fewer gone earlier fewer start drops apart (inr at) = inr (drops.kept start apart at)

IsPlaced-fewer : (gone : Place) (earlier fewer : List Place) (range : PlacedRange) → Drops gone earlier fewer → range.start ≢ gone
    → IsPlaced earlier range → IsPlaced fewer range
IsPlaced-fewer gone earlier fewer range drops apart placed = record {
  found = IsFound-fewer gone earlier fewer range.start drops apart placed.found;
  is_open = placed.is_open;
  is_new = λ at. placed.is_new (drops.within range.place at);
}

AreOrdered-fewer : (gone : Place) (earlier fewer : List Place) (ranges : List PlacedRange) → Drops gone earlier fewer
    → All (λ range. range.start ≢ gone) ranges → AreOrdered earlier ranges → AreOrdered fewer ranges
AreOrdered-fewer gone earlier fewer [] drops apart ordered = tt
AreOrdered-fewer gone earlier fewer (range ∷ others) drops apart ordered = (
  IsPlaced-fewer gone earlier fewer range drops (All-head (λ r. r.start ≢ gone) range others apart) ordered.0,
  AreOrdered-fewer gone (earlier ++ range.place ∷ []) (fewer ++ range.place ∷ []) others (Drops-push gone earlier fewer range.place drops)
      (All-tail (λ r. r.start ≢ gone) range others apart) ordered.1,
)

-- ---- two ranges as one
joined_behind : (earlier fewer : List Place) (range : PlacedRange) (middle : List PlacedRange) (other : PlacedRange) (back : List PlacedRange)
    → Drops range.place earlier fewer → IsFound fewer range.start
    → All (λ r. r.start ≢ range.place) middle → All (λ r. r.start ≢ range.place) back
    → AreOrdered earlier (middle ++ other ∷ back) → AreOrdered fewer (middle ++ joined_range range other ∷ back)
joined_behind earlier fewer range [] other back drops found before after ordered = (
  record { found = found; is_open = ordered.0.is_open; is_new = λ at. ordered.0.is_new (drops.within other.place at) },
  AreOrdered-fewer range.place (earlier ++ other.place ∷ []) (fewer ++ other.place ∷ []) back
      (Drops-push range.place earlier fewer other.place drops) after ordered.1,
)
joined_behind earlier fewer range (first ∷ middle) other back drops found before after ordered = (
  IsPlaced-fewer range.place earlier fewer first drops (All-head (λ r. r.start ≢ range.place) first middle before) ordered.0,
  joined_behind (earlier ++ first.place ∷ []) (fewer ++ first.place ∷ []) range middle other back
      (Drops-push range.place earlier fewer first.place drops)
      (IsFound-wider fewer (fewer ++ first.place ∷ []) range.start (λ place at. Contains-append_left fewer (first.place ∷ []) place at) found)
      (All-tail (λ r. r.start ≢ range.place) first middle before) after ordered.1,
)

-- a range that joins the only one that starts at it leaves the ranges in order
pub AreOrdered-joined : (earlier : List Place) (front : List PlacedRange) (range : PlacedRange) (middle : List PlacedRange) (other : PlacedRange) (back : List PlacedRange)
    → All (λ r. r.start ≢ range.place) middle → All (λ r. r.start ≢ range.place) back
    → AreOrdered earlier (front ++ range ∷ (middle ++ other ∷ back)) → AreOrdered earlier (front ++ (middle ++ joined_range range other ∷ back))
AreOrdered-joined earlier [] range middle other back before after ordered =
    joined_behind (earlier ++ range.place ∷ []) earlier range middle other back (Drops-last range.place earlier) ordered.0.found before after ordered.1
AreOrdered-joined earlier (first ∷ front) range middle other back before after ordered =
    (ordered.0, AreOrdered-joined (earlier ++ first.place ∷ []) front range middle other back before after ordered.1)
