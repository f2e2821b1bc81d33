-- What stands at the places of the generated layout: how many objects there are, which of them are complex, and that
-- their values have their forms.
use Rattle.std.proofs.Common.{◌≡◌, ℕ, zero, suc, ◌+◌, ◌*◌, ◌/◌, ◌%◌, ◌<◌, ◌≤◌, ◌==◌, true, false, if◌then◌else◌, List, [], ◌∷◌, ◌++◌, length, replicate, Some, slice_get, All, refl, ap, ◌∙◌, arith, length-append}
use Rattle.std.specs.Prelude.{FitsSigned, pos}
use Rattle.std.specs.List.{flat_map}
use Rattle.std.specs.Fmt.{decimal}
use Rattle.std.specs.Int.{w64}
use Rattle.std.proofs.lemmas.Fmt.{length-decimal-le}
use Rattle.std.proofs.lemmas.Int.{fits_signed_from_abs}
use Rattle.std.proofs.lemmas.List.{length-replicate, get_or-replicate, get_or-append-add}
use Rattle.std.proofs.lemmas.List.Elements.{All-nil, All-cons, All-append, All-replicate, All-head, All-tail, All-from_recursion}
use Rattle.std.proofs.lemmas.Nat.{mod_below}
use Rattle.std.proofs.lemmas.Option.{slice_get-get_or}
use Rattle.lore_base.specs.declared.values.Value.TheVariants.{Whole, Chars}
use Rattle.lore_base.specs.Databases.{IsSized}
use Rattle.oem_text.specs.Types.{Value, Complex}
use Rattle.oem_text.specs.Generated.{numbers_from, age_from, age_value, person_values, drawn, generated_values, person_place, club_place, link_place}

-- ---- lists
pub All-numbers_from : (P : ℕ → Type 0) (first count : ℕ) → ((i : ℕ) → first ≤ i → i < first + count → P i) → All P (numbers_from first count)
All-numbers_from P first zero each = All-nil P
All-numbers_from P first (suc count) each =
    All-cons P first (numbers_from (first + 1) count) (each first (omega arith) (omega arith))
    (All-numbers_from P (first + 1) count (λ i low below. each i (omega (arith, low)) (omega (arith, below))))

pub All-flat_map : {X Y : Type 0} (P : Y → Type 0) (f : X → List Y) (xs : List X) → All (λ x. All P (f x)) xs → All P (flat_map f xs)
All-flat_map {X} P f [] each = All-nil P
All-flat_map {X} P f (x ∷ xs) each =
    All-append P (f x) (flat_map f xs) (All-head (λ (z : X). All P (f z)) x xs each)
    (All-flat_map P f xs (All-tail (λ (z : X). All P (f z)) x xs each))

-- ---- how many objects
-- the objects of so many persons, from this one on
abbrev persons : (seed first count : ℕ) → List Value
persons seed first count = flat_map (person_values seed) (numbers_from first count)

length-persons : (seed first count : ℕ) → length (persons seed first count) ≡ 4 * count
length-persons seed first zero = refl
length-persons seed first (suc count) = omega (arith, length-persons seed (first + 1) count)

pub generated_length : (seed count : ℕ) → length (generated_values seed count) ≡ 4 * count + 111
generated_length seed count =
    let whole = length-append (persons seed 1 count) (replicate 110 Complex) in
    omega (arith, whole, length-persons seed 1 count, length-replicate 110 Complex)

-- ---- complex objects
person_there : (seed first count k : ℕ) (rest : List Value) → k < count → slice_get (persons seed first count ++ rest) (4 * k) ≡ Some Complex
person_there seed first zero k rest low = absurd (omega (arith, low))
person_there seed first (suc count) zero rest low = refl
person_there seed first (suc count) (suc k) rest low =
    let same : 4 * suc k ≡ suc (suc (suc (suc (4 * k)))) = omega arith in
    ap (slice_get (persons seed first (suc count) ++ rest)) same ∙ person_there seed (first + 1) count k rest (omega (arith, low))

-- person i
pub person_at : (seed count i : ℕ) → 1 ≤ i → i ≤ count → slice_get (generated_values seed count) (person_place i) ≡ Some Complex
person_at seed count zero first low = absurd (omega (arith, first))
person_at seed count (suc k) first low =
    let same : person_place (suc k) ≡ suc (4 * k) = omega arith in
    ap (slice_get (generated_values seed count)) same ∙ person_there seed 1 count k (replicate 110 Complex) (omega (arith, low))

-- what stands behind the persons
behind_at : (seed count j : ℕ) → j < 110 → slice_get (generated_values seed count) (4 * count + 1 + j) ≡ Some Complex
behind_at seed count j low =
    let front : List Value = persons seed 1 count in
    let rest : List Value = replicate 110 Complex in
    let long = length-persons seed 1 count in
    let same : 4 * count + 1 + j ≡ suc (length front + j) = omega (arith, long) in
    let within : length front + j < length (front ++ rest) = omega (arith, length-append front rest, length-replicate 110 Complex, low) in
    ap (slice_get (generated_values seed count)) same
    ∙ slice_get-get_or (front ++ rest) (length front + j) Complex within
    ∙ ap (λ (value : Value). Some value) (get_or-append-add front rest j Complex ∙ get_or-replicate 110 j Complex Complex low)

-- club c and link j
pub club_at : (seed count c : ℕ) → c < 10 → slice_get (generated_values seed count) (club_place count c) ≡ Some Complex
club_at seed count c low = behind_at seed count c (omega (arith, low))

pub link_at : (seed count j : ℕ) → j < 100 → slice_get (generated_values seed count) (link_place count j) ≡ Some Complex
link_at seed count j low =
    let same : link_place count j ≡ 4 * count + 1 + (10 + j) = omega arith in
    ap (slice_get (generated_values seed count)) same ∙ behind_at seed count (10 + j) (omega (arith, low))

-- ---- forms
number_fits : (number : ℕ) → number ≤ 10000 → FitsSigned w64 (pos number)
number_fits number low = fits_signed_from_abs w64 (pos number) (omega (arith, low))

number_short : (number : ℕ) → number ≤ 10000 → length (decimal number) ≤ 5
number_short number low = length-decimal-le 5 number (omega arith) (omega (arith, low)) (omega (arith, low))

age_low : (number : ℕ) → age_from number ≤ 10000
age_low number = let low = mod_below (number / 65536) 60 (omega arith) in omega (arith, low)

age_sized : (i age : ℕ) → age ≤ 10000 → IsSized (age_value i age)
age_sized i age low = elim (i % 7 == 0) as (λ b. IsSized (if b then Chars (decimal age) else Whole (pos age))) [
  | true ↦ (let short = number_short age low in omega (arith, short))
  | false ↦ number_fits age low
]

person_sized : (seed i : ℕ) → i ≤ 10000 → All IsSized (person_values seed i)
person_sized seed i low =
    let short = number_short i low in
    All-from_recursion IsSized (person_values seed i)
    (tt, (number_fits i low, (omega (arith, short), (age_sized i (age_from (drawn seed i)) (age_low (drawn seed i)), tt))))

pub generated_sized : (seed count : ℕ) → count ≤ 10000 → All IsSized (generated_values seed count)
generated_sized seed count most =
    let people : All IsSized (persons seed 1 count) =
    All-flat_map IsSized (person_values seed) (numbers_from 1 count)
    (All-numbers_from (λ i. All IsSized (person_values seed i)) 1 count (λ i low below. person_sized seed i (omega (arith, below, most)))) in
    All-cons IsSized Complex (persons seed 1 count ++ replicate 110 Complex) tt
    (All-append IsSized (persons seed 1 count) (replicate 110 Complex) people (All-replicate IsSized 110 Complex tt))
