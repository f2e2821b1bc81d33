-- Rows of eight slots: what the ranges ask of a row is that they fill its slots, and behind those nothing is filled.
use Rattle.std.proofs.Common.{◌≡◌, ℕ, zero, suc, ◌+◌, ◌-◌, ◌<◌, ◌≤◌, List, [], ◌∷◌, ◌++◌, length, take, replicate, Some, subst, refl, sym, ap, ◌∙◌, arith, length-append, length-take-le}
use Rattle.std.specs.List.{AllZip, slice_get}
use Rattle.std.proofs.lemmas.List.{length-replicate}
use Rattle.std.proofs.lemmas.Option.{same_Some, none-some}
use Rattle.list_laws.proofs.PlaceLaws.{slice_get-append_left}
use Rattle.lore_base.specs.Walks.{oid_of}
use Rattle.lore_base.specs.Paths.{Reaches}
use Rattle.lorel_bound.specs.Bound.{RangeTree}
use Rattle.lorel_bound.specs.Runnable.{IsWithin, AreInOrder}
use Rattle.lorel_bound.specs.SlotRows.{StartsAt, AreFilled}
use Rattle.plan_laws.specs.Types.{Oid, Edge, Start, RANGES}
use Rattle.plan_laws.specs.Types.starts
use Rattle.plan_laws.specs.Steps.{Connects, in_eight}
use Rattle.plan_laws.proofs.OrderLawsRanges.{OfEach}

-- ---- lists by their places
same_at : {X : Type 0} (xs ys : List X) → ((n : ℕ) → slice_get xs n ≡ slice_get ys n) → xs ≡ ys
same_at [] [] same = refl
same_at [] (y ∷ ys) same = absurd (none-some y (same 0))
same_at (x ∷ xs) [] same = absurd (none-some x (sym (same 0)))
same_at (x ∷ xs) (y ∷ ys) same =
    let first : x ≡ y = same_Some x y (same 0) in
    let others : xs ≡ ys = same_at xs ys (λ n. same (suc n)) in
    cc

-- a row that is the same as one of z alone behind its first slots
padded : {X : Type 0} (z : X) (count rest total : ℕ) (row : List X) → total ≡ count + rest → length row ≡ total
    → ((n : ℕ) → count ≤ n → slice_get row n ≡ slice_get (replicate total z) n) → row ≡ take count row ++ replicate rest z
padded z zero rest total row is long same =
    let here : total ≡ rest = omega (arith, is) in
    same_at row (replicate rest z) (λ n. same n (omega arith) ∙ ap (λ (m : ℕ). slice_get (replicate m z) n) here)
padded z (suc count) rest total [] is long same = absurd (omega (arith, is, long))
padded z (suc count) rest zero (x ∷ row) is long same = absurd (omega (arith, is))
padded {X} z (suc count) rest (suc total) (x ∷ row) is long same =
    let later = padded z count rest total row (omega (arith, is)) (omega (arith, long)) (λ n low. same (suc n) (omega (arith, low))) in
    ap (λ (l : List X). x ∷ l) later

past : {X : Type 0} (z : X) (xs : List X) (rest total n : ℕ) → total ≡ length xs + rest → length xs ≤ n
    → slice_get (xs ++ replicate rest z) n ≡ slice_get (replicate total z) n
past z [] rest total n is high =
    let here : rest ≡ total = omega (arith, is) in
    ap (λ (m : ℕ). slice_get (replicate m z) n) here
past z (x ∷ xs) rest zero n is high = absurd (omega (arith, is))
past z (x ∷ xs) rest (suc total) zero is high = absurd (omega (arith, high))
past z (x ∷ xs) rest (suc total) (suc n) is high = past z xs rest total n (omega (arith, is)) (omega (arith, high))

taken_at : {X : Type 0} (count : ℕ) (xs : List X) (n : ℕ) (x : X) → n < count → slice_get xs n ≡ Some x
    → slice_get (take count xs) n ≡ Some x
taken_at zero xs n x low is = absurd (omega (arith, low))
taken_at (suc count) [] n x low is = absurd (none-some x is)
taken_at (suc count) (y ∷ xs) zero x low is = is
taken_at (suc count) (y ∷ xs) (suc n) x low is = taken_at count xs n x (omega (arith, low)) is

zero_more : (n place : ℕ) → place ≡ 0 + n → place ≡ n
zero_more n place is = omega (arith, is)

-- ---- ranges and the slots that they fill
pub within_more : (small large : ℕ) (start : Start) → small ≤ large → IsWithin small start → IsWithin large start
within_more small large (starts.Named named) le within = tt
within_more small large (starts.Slot slot) le within = omega (arith, le, within)

start_in_front : (slots others : List Oid) (start : Start) (oid : Oid) → StartsAt slots start oid → StartsAt (slots ++ others) start oid
start_in_front slots others (starts.Named named) oid begins = begins
start_in_front slots others (starts.Slot slot) oid begins = slice_get-append_left slots others slot oid begins

start_taken : (count : ℕ) (row : List Oid) (start : Start) (oid : Oid) → IsWithin count start → StartsAt row start oid → StartsAt (take count row) start oid
start_taken count row (starts.Named named) oid within begins = begins
start_taken count row (starts.Slot slot) oid within begins = taken_at count row slot oid within begins

module _ (labels : List (List ℕ)) (edges : List Edge) where
  -- what a range asks of a row where its slot is this one
  abbrev pub Asks : List Oid → ℕ → RangeTree → Type 0
  Asks row slot range = Connects (Reaches labels edges range.path) row range.start (starts.Slot slot)

  -- what it asks of the object that is to fill its slot
  abbrev Fills : List Oid → RangeTree → Oid → Type 0
  Fills slots range oid = (start : Oid) × StartsAt slots range.start start × Reaches labels edges range.path start oid

  -- slots of a row that the ranges fill are as the ranges ask
  asked_of_filled : (slots row : List Oid) (first : ℕ) (ranges : List RangeTree) (rest : List Oid)
      → ((start : Start) (oid : Oid) → StartsAt slots start oid → StartsAt row start oid)
      → ((n place : ℕ) (oid : Oid) → place ≡ first + n → slice_get rest n ≡ Some oid → slice_get row place ≡ Some oid)
      → AllZip (Fills slots) ranges rest → OfEach (Asks row) first ranges
  asked_of_filled slots row first [] rest starting places zip = tt
  asked_of_filled slots row first (range ∷ ranges) [] starting places zip = absurd zip
  asked_of_filled slots row first (range ∷ ranges) (oid ∷ rest) starting places zip = (
    record {
      from = zip.0.0;
      to = oid;
      begins = starting range.start zip.0.0 zip.0.1;
      ends = places 0 first oid (omega arith) refl;
      leads = zip.0.2;
    },
    asked_of_filled slots row (suc first) ranges rest starting (λ n place own is here. places (suc n) place own (omega (arith, is)) here) zip.1,
  )

  -- and the other way round
  filled_of_asked : (slots row : List Oid) (count first : ℕ) (ranges : List RangeTree) (rest : List Oid)
      → ((start : Start) (oid : Oid) → IsWithin count start → StartsAt row start oid → StartsAt slots start oid)
      → ((n place : ℕ) (oid : Oid) → place ≡ first + n → slice_get row place ≡ Some oid → slice_get rest n ≡ Some oid)
      → AreInOrder first ranges → first + length ranges ≤ count → OfEach (Asks row) first ranges
      → AllZip (Fills slots) ranges (take (length ranges) rest)
  filled_of_asked slots row count first [] rest starting places order few each = tt
  filled_of_asked slots row count first (range ∷ ranges) [] starting places order few each =
      absurd (none-some each.0.to (places 0 first each.0.to (omega arith) each.0.ends))
  filled_of_asked slots row count first (range ∷ ranges) (oid ∷ rest) starting places order few each =
      let asked = each.0 in
      let is : oid ≡ asked.to = same_Some oid asked.to (places 0 first asked.to (omega arith) asked.ends) in
      let begins = starting range.start asked.from (within_more first count range.start (omega (arith, few)) order.0) asked.begins in (
        (asked.from, begins, subst (λ (o : Oid). Reaches labels edges range.path asked.from o) (sym is) asked.leads),
        filled_of_asked slots row count (suc first) ranges rest starting (λ n place own same here. places (suc n) place own (omega (arith, same)) here) order.1 (omega (arith, few)) each.1,
      )

  zip_length : (slots : List Oid) (ranges : List RangeTree) (rest : List Oid) → AllZip (Fills slots) ranges rest → length rest ≡ length ranges
  zip_length slots [] [] zip = refl
  zip_length slots [] (oid ∷ rest) zip = absurd zip
  zip_length slots (range ∷ ranges) [] zip = absurd zip
  zip_length slots (range ∷ ranges) (oid ∷ rest) zip = ap suc (zip_length slots ranges rest zip.1)

  module _ (ranges : List RangeTree) (order : AreInOrder 0 ranges) (few : length ranges ≤ RANGES) where
    -- a row that is as the ranges ask, and holds nothing behind their slots, is made of slots that they fill
    pub filled_in_eight : (row : List Oid) → length row ≡ RANGES
        → ((slot : ℕ) → length ranges ≤ slot → slice_get row slot ≡ slice_get (in_eight []) slot)
        → OfEach (Asks row) 0 ranges
        → (slots : List Oid) × AreFilled labels edges ranges slots × (row ≡ in_eight slots)
    filled_in_eight row eight behind each =
        let count = length ranges in
        let slots = take count row in
        let size : length slots ≡ count = length-take-le count row (omega (arith, few, eight)) in
        let left : RANGES ≡ count + (RANGES - length slots) = omega (arith, size, few) in (
          slots,
          filled_of_asked slots row count 0 ranges row (start_taken count row)
              (λ n place oid is here. subst (λ (m : ℕ). slice_get row m ≡ Some oid) (zero_more n place is) here) order (omega arith) each,
          padded (oid_of 0) count (RANGES - length slots) RANGES row left eight behind,
        )

    -- and the other way round
    pub asked_in_eight : (slots : List Oid) → AreFilled labels edges ranges slots
        → (length (in_eight slots) ≡ RANGES)
        × ((slot : ℕ) → length ranges ≤ slot → slice_get (in_eight slots) slot ≡ slice_get (in_eight []) slot)
        × OfEach (Asks (in_eight slots)) 0 ranges
    asked_in_eight slots filled =
        let size : length slots ≡ length ranges = zip_length slots ranges slots filled in
        let rest = RANGES - length slots in
        let others = replicate rest (oid_of 0) in
        let total : RANGES ≡ length slots + rest = omega (arith, size, few) in (
          length-append slots others ∙ ap (λ (n : ℕ). length slots + n) (length-replicate rest (oid_of 0)) ∙ sym total,
          λ slot high. past (oid_of 0) slots rest RANGES slot total (omega (arith, size, high)),
          asked_of_filled slots (slots ++ others) 0 ranges slots (start_in_front slots others)
              (λ n place oid is here. slice_get-append_left slots others place oid (subst (λ (m : ℕ). slice_get slots m ≡ Some oid) (sym (zero_more n place is)) here)) filled,
        )
