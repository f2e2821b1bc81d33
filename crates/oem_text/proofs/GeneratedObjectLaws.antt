-- Numbers in a row and what is made of them, with one number more; and objects numbered behind others.
use Rattle.std.proofs.Common.{◌≡◌, ℕ, zero, suc, ◌+◌, ◌*◌, List, [], ◌∷◌, ◌++◌, length, map, replicate, flat_map, refl, sym, ap, ◌∙◌, arith, append_assoc, length-append}
use Rattle.std.proofs.lemmas.List.{map_push, flat_map_more, replicate_more, length-replicate}
use Rattle.oem_text.proofs.NumberedLaws.{numbered-append}
use Rattle.oem_text.specs.Types.{Oid, Value, Complex}
use Rattle.lore_base.specs.Walks.{oid_of}
use Rattle.oem_text.specs.Literals.{numbered}
use Rattle.oem_text.specs.Generated.{numbers_from, drawn, drawn_after, person_values, generated_values}

-- ---- numbers in a row
pub numbers_more : (first count : ℕ) → numbers_from first (count + 1) ≡ numbers_from first count ++ (first + count) ∷ []
numbers_more first zero =
    let same : first ≡ first + 0 = omega arith in
    ap (λ (n : ℕ). n ∷ []) same
numbers_more first (suc count) =
    let one : suc count + 1 ≡ suc (count + 1) = omega arith in
    let last : first + 1 + count ≡ first + suc count = omega arith in
    ap (numbers_from first) one
    ∙ ap (λ (l : List ℕ). first ∷ l) (numbers_more (first + 1) count)
    ∙ ap (λ (n : ℕ). first ∷ (numbers_from (first + 1) count ++ n ∷ [])) last

pub map_longer : {X : Type 0} (f : ℕ → X) (first count : ℕ)
    → map f (numbers_from first (count + 1)) ≡ map f (numbers_from first count) ++ f (first + count) ∷ []
map_longer f first count = ap (map f) (numbers_more first count) ∙ map_push f (numbers_from first count) (first + count)

pub flat_longer : {X : Type 0} (f : ℕ → List X) (first count : ℕ)
    → flat_map f (numbers_from first (count + 1)) ≡ flat_map f (numbers_from first count) ++ f (first + count)
flat_longer f first count =
    ap (flat_map f) (numbers_more first count) ∙ sym (flat_map_more f [] (numbers_from first count) (first + count))

-- ---- numbered values
-- objects behind others, and some more of them
pub objects_longer : (old before after : List (Oid × Value)) (first at : ℕ) (values more : List Value)
    → before ≡ old ++ numbered first values → at ≡ first + length values → after ≡ before ++ numbered at more
    → after ≡ old ++ numbered first (values ++ more)
objects_longer old before after first at values more is here step =
    step ∙ ap (λ (n : ℕ). before ++ numbered n more) here
    ∙ ap (λ (l : List (Oid × Value)). l ++ numbered (first + length values) more) is
    ∙ append_assoc old (numbered first values) (numbered (first + length values) more)
    ∙ ap (λ (l : List (Oid × Value)). old ++ l) (sym (numbered-append first values more))

pub complex_more : (old before after : List (Oid × Value)) (first at count : ℕ) → before ≡ old ++ numbered first (replicate count Complex)
    → at ≡ first + count → after ≡ before ++ (oid_of at, Complex) ∷ [] → after ≡ old ++ numbered first (replicate (count + 1) Complex)
complex_more old before after first at count is here step =
    objects_longer old before after first at (replicate count Complex) (Complex ∷ []) is (omega (arith, here, length-replicate count Complex)) step
    ∙ ap (λ (l : List Value). old ++ numbered first l) (replicate_more count Complex)

-- ---- persons
pub drawn_more : (seed count number after : ℕ) → number ≡ drawn seed count → after ≡ drawn_after number → after ≡ drawn seed (count + 1)
drawn_more seed count number after is step =
    let one : suc count ≡ count + 1 = omega arith in
    step ∙ ap drawn_after is ∙ ap (drawn seed) one

-- each of them has four objects
length-persons : (seed first count : ℕ) → length (flat_map (person_values seed) (numbers_from first count)) ≡ 4 * count
length-persons seed first zero = refl
length-persons seed first (suc count) =
    let left = flat_map (person_values seed) (numbers_from (first + 1) count) in
    let rest : length left ≡ 4 * count = length-persons seed (first + 1) count in
    let whole : length (person_values seed first ++ left) ≡ 4 + length left = length-append (person_values seed first) left in
    omega (arith, rest, whole)

pub persons_more : (seed count first at : ℕ) (old before after : List (Oid × Value))
    → before ≡ old ++ numbered first (flat_map (person_values seed) (numbers_from 1 count)) → at ≡ first + 4 * count
    → after ≡ before ++ numbered at (person_values seed (count + 1))
    → after ≡ old ++ numbered first (flat_map (person_values seed) (numbers_from 1 (count + 1)))
persons_more seed count first at old before after is here step =
    let values = flat_map (person_values seed) (numbers_from 1 count) in
    let turn : count + 1 ≡ 1 + count = omega arith in
    let behind : at ≡ first + length values = omega (arith, here, length-persons seed 1 count) in
    objects_longer old before after first at values (person_values seed (1 + count)) is behind
    (step ∙ ap (λ (i : ℕ). before ++ numbered at (person_values seed i)) turn)
    ∙ ap (λ (l : List Value). old ++ numbered first l) (sym (flat_longer (person_values seed) 1 count))

-- the root, the persons, and the clubs and links
pub objects_all : (seed count next from behind : ℕ) (none root persons all : List (Oid × Value)) → none ≡ []
    → root ≡ none ++ numbered next (replicate 1 Complex) → from ≡ next + 1
    → persons ≡ root ++ numbered from (flat_map (person_values seed) (numbers_from 1 count)) → behind ≡ next + 1 + 4 * count
    → all ≡ persons ++ numbered behind (replicate 110 Complex) → all ≡ numbered next (generated_values seed count)
objects_all seed count next from behind none root persons all empty first here second there third =
    let values = flat_map (person_values seed) (numbers_from 1 count) in
    let one : root ≡ [] ++ numbered next (Complex ∷ []) =
    first ∙ ap (λ (l : List (Oid × Value)). l ++ numbered next (Complex ∷ [])) empty in
    let two : persons ≡ [] ++ numbered next (Complex ∷ values) =
    objects_longer [] root persons next from (Complex ∷ []) values one here second in
    let size : behind ≡ next + suc (length values) = omega (arith, there, length-persons seed 1 count) in
    objects_longer [] persons all next behind (Complex ∷ values) (replicate 110 Complex) two size third
