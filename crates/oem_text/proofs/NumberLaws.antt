-- The labels of texts in a table, and the texts that come to it one after another.
use Rattle.std.proofs.Common.{◌≡◌, ◌≢◌, ℕ, suc, ◌+◌, ◌≤◌, Bool, true≢false, if◌then◌else◌, List, [], ◌∷◌, ◌++◌, length, Option, None, Some, IfSome, IfNone, slice_get, Contains, AllPairs, refl, sym, ap, subst, ◌∙◌, inl, inr, arith, append_assoc, append-nil, length-append}
use Rattle.std.proofs.lemmas.Slice.Eq.{bytes_eq-Decides}
use Rattle.std.proofs.lemmas.List.Elements.{All-contains, Contains-append_cases}
use Rattle.std.specs.Str.{bytes_eq}
use Rattle.std.proofs.lemmas.Bool.{cases_Bool}
use Rattle.lore_base.proofs.MemberLaws.{Contains-none, Contains-head, Contains-cases}
use Rattle.list_laws.proofs.PlaceLaws.{Contains-from_place, place_of_member, slice_get-append_left}
use Rattle.oem_labels.proofs.PlaceLaws.{label_in-at}
use Rattle.oem_text.specs.Types.{Label, LABELS}
use Rattle.oem_labels.specs.Labels.{first_uses, place_in, label_in}
use Rattle.oem_labels.proofs.LabelLaws.{is_known, first_uses-known, first_uses-new, first_uses-append, first_uses_cover, first_uses_distinct}
use Rattle.oem_labels.proofs.TextSetLaws.{no_text}
use Rattle.oem_text.specs.Layouts.{NumberedTexts, table_of, with_texts, count_with}
use Rattle.oem_text.specs.inside.Views.{numbered_texts, AreNumbered}

-- ---- the place of a text
place_first : (text other : List ℕ) (texts : List (List ℕ)) → other ≡ text → place_in (other ∷ texts) text ≡ 0
place_first text other texts is = ap (λ (b : Bool). if b then 0 else (1 + place_in texts text)) ((bytes_eq-Decides other text).1 is)

place_later : (text other : List ℕ) (texts : List (List ℕ)) → other ≢ text → place_in (other ∷ texts) text ≡ 1 + place_in texts text
place_later text other texts apart =
    elim (cases_Bool (bytes_eq other text)) [
      | inl e ↦ absurd (apart ((bytes_eq-Decides other text).0 e))
      | inr e ↦ ap (λ (b : Bool). if b then 0 else (1 + place_in texts text)) e
    ]

-- and stays where texts come behind it
pub place_in-append : (texts others : List (List ℕ)) (text : List ℕ) → Contains texts text → place_in (texts ++ others) text ≡ place_in texts text
place_in-append [] others text h = absurd (Contains-none text h)
place_in-append (other ∷ texts) others text h =
    elim (cases_Bool (bytes_eq other text)) [
      | inl e ↦ (let is = (bytes_eq-Decides other text).0 e in place_first text other (texts ++ others) is ∙ sym (place_first text other texts is))
      | inr e ↦ (
          let apart : other ≢ text = λ is. true≢false (sym ((bytes_eq-Decides other text).1 is) ∙ e) in
          elim (Contains-cases other texts text h) [
            | inl is ↦ absurd (apart is)
            | inr later ↦ place_later text other (texts ++ others) apart ∙ ap (λ (n : ℕ). 1 + n) (place_in-append texts others text later)
                ∙ sym (place_later text other texts apart)
          ])
    ]

pub label_in-append : (texts others : List (List ℕ)) (text : List ℕ) → Contains texts text → label_in (texts ++ others) text ≡ label_in texts text
label_in-append texts others text h = ap (λ (n : ℕ). let label : Label = record { 0 = n } in label) (place_in-append texts others text h)

-- ---- texts that come
pub table-with : (numbers : NumberedTexts) (texts : List (List ℕ)) → table_of (with_texts numbers texts) ≡ table_of numbers ++ first_uses (table_of numbers) texts
table-with numbers texts = sym (append_assoc numbers.known numbers.come (first_uses (table_of numbers) texts))

pub with_texts-none : (numbers : NumberedTexts) → with_texts numbers [] ≡ numbers
with_texts-none numbers = ap (λ (come : List (List ℕ)). let made : NumberedTexts = record { known = numbers.known; come = come } in made) (append-nil numbers.come)

pub with_texts-append : (numbers : NumberedTexts) (xs ys : List (List ℕ)) → with_texts (with_texts numbers xs) ys ≡ with_texts numbers (xs ++ ys)
with_texts-append numbers xs ys =
    let firsts = first_uses (table_of numbers) xs in
    let same : (numbers.come ++ firsts) ++ first_uses (table_of (with_texts numbers xs)) ys ≡ numbers.come ++ first_uses (table_of numbers) (xs ++ ys) =
    append_assoc numbers.come firsts (first_uses (table_of (with_texts numbers xs)) ys)
    ∙ ap (λ (l : List (List ℕ)). numbers.come ++ l)
    (ap (λ (l : List (List ℕ)). firsts ++ first_uses l ys) (table-with numbers xs) ∙ sym (first_uses-append (table_of numbers) xs ys)) in
    ap (λ (come : List (List ℕ)). let made : NumberedTexts = record { known = numbers.known; come = come } in made) same

-- the text of a label is in the table
pub has_text : (numbers : NumberedTexts) (text : List ℕ) → Contains (table_of (with_texts numbers (text ∷ []))) text
has_text numbers text =
    let all = first_uses_cover (table_of numbers) (text ∷ []) in
    subst (λ (l : List (List ℕ)). Contains l text) (sym (table-with numbers (text ∷ [])))
    (All-contains (Contains (table_of numbers ++ first_uses (table_of numbers) (text ∷ []))) (text ∷ []) text all (Contains-head text []))

-- ---- how many there are
pub count-then : (numbers : NumberedTexts) (xs ys : List (List ℕ)) → count_with (with_texts numbers xs) ys ≡ count_with numbers (xs ++ ys)
count-then numbers xs ys =
    let firsts = first_uses (table_of numbers) xs in
    let table = table-with numbers xs in
    let sizes = ap length table ∙ length-append (table_of numbers) firsts in
    let later = ap (λ (l : List (List ℕ)). length (first_uses l ys)) table in
    let whole = ap length (first_uses-append (table_of numbers) xs ys) ∙ length-append firsts (first_uses (table_of numbers ++ firsts) ys) in
    omega (arith, sizes, later, whole)

pub count-front : (numbers : NumberedTexts) (xs ys : List (List ℕ)) → count_with numbers xs ≤ count_with numbers (xs ++ ys)
count-front numbers xs ys =
    let firsts = first_uses (table_of numbers) xs in
    let whole = ap length (first_uses-append (table_of numbers) xs ys) ∙ length-append firsts (first_uses (table_of numbers ++ firsts) ys) in
    omega (arith, whole)

-- ---- one text
slice_get-right : {X : Type 0} (xs ys : List X) (i : ℕ) (x : X) → slice_get ys i ≡ Some x → slice_get (xs ++ ys) (length xs + i) ≡ Some x
slice_get-right {X} [] ys i x h = let same : 0 + i ≡ i = omega arith in ap (λ n. slice_get ys n) same ∙ h
slice_get-right {X} (y ∷ xs) ys i x h =
    let same : length (y ∷ xs) + i ≡ suc (length xs + i) = omega arith in
    ap (λ n. slice_get (y ∷ (xs ++ ys)) n) same ∙ slice_get-right xs ys i x h

-- neither of two tables has it
pub absent : (known come : List (List ℕ)) (text : List ℕ) → ((label : Label) → slice_get known label.0 ≢ Some text) → ((label : Label) → slice_get come label.0 ≢ Some text)
    → (place : ℕ) → slice_get (known ++ come) place ≢ Some text
absent known come text not_known not_come place h =
    elim (Contains-append_cases known come text (Contains-from_place (known ++ come) place text h)) [
      | inl left ↦ (let there = place_of_member known text left in not_known (record { 0 = there.0 }) there.1)
      | inr right ↦ (let there = place_of_member come text right in not_come (record { 0 = there.0 }) there.1)
    ]

-- what a look-up in the first of the tables told, told of both
pub found_known : (found : Option Label) (known come : List (List ℕ)) (text : List ℕ) → IfSome found (λ label. slice_get known label.0 ≡ Some text)
    → IfSome found (λ label. slice_get (known ++ come) label.0 ≡ Some text)
found_known None known come text h = tt
found_known (Some label) known come text h = slice_get-append_left known come label.0 text h

pub none_known : (found : Option Label) (known come : List (List ℕ)) (text : List ℕ) → IfNone found ((label : Label) → slice_get known label.0 ≢ Some text)
    → ((label : Label) → slice_get come label.0 ≢ Some text) → IfNone found ((place : ℕ) → slice_get (known ++ come) place ≢ Some text)
none_known None known come text h not_come = absent known come text h not_come
none_known (Some label) known come text h not_come = tt

-- what a look-up in the second told
pub none_come : (found : Option Label) (known come : List (List ℕ)) (text : List ℕ) → ((label : Label) → slice_get known label.0 ≢ Some text)
    → IfNone found ((label : Label) → slice_get come label.0 ≢ Some text) → IfNone found ((place : ℕ) → slice_get (known ++ come) place ≢ Some text)
none_come None known come text not_known h = absent known come text not_known h
none_come (Some label) known come text not_known h = tt

pub absent_right : (known come : List (List ℕ)) (text : List ℕ) → ((place : ℕ) → slice_get (known ++ come) place ≢ Some text) → (label : Label) → slice_get come label.0 ≢ Some text
absent_right known come text nowhere label h = nowhere (length known + label.0) (slice_get-right known come label.0 text h)

-- a text that has a label brings nothing
pub brings_none : (numbers : NumberedTexts) (place : ℕ) (text : List ℕ) → slice_get (table_of numbers) place ≡ Some text → first_uses (table_of numbers) (text ∷ []) ≡ []
brings_none numbers place text there =
    first_uses-known (table_of numbers) text [] (is_known (table_of numbers) text (Contains-from_place (table_of numbers) place text there))

pub with_known : (numbers : NumberedTexts) (place : ℕ) (text : List ℕ) → slice_get (table_of numbers) place ≡ Some text → numbers ≡ with_texts numbers (text ∷ [])
with_known numbers place text there =
    sym (with_texts-none numbers)
    ∙ ap (λ (l : List (List ℕ)). let made : NumberedTexts = record { known = numbers.known; come = numbers.come ++ l } in made) (sym (brings_none numbers place text there))

pub count-known : (numbers : NumberedTexts) (place : ℕ) (text : List ℕ) → slice_get (table_of numbers) place ≡ Some text → count_with numbers (text ∷ []) ≡ length (table_of numbers)
count-known numbers place text there = let none = ap length (brings_none numbers place text there) in omega (arith, none)

-- one that has none brings itself
pub brings_one : (numbers : NumberedTexts) (text : List ℕ) → ((place : ℕ) → slice_get (table_of numbers) place ≢ Some text) → first_uses (table_of numbers) (text ∷ []) ≡ text ∷ []
brings_one numbers text nowhere = first_uses-new (table_of numbers) text [] (no_text text (table_of numbers) nowhere)

pub with_new : (numbers : NumberedTexts) (come : List (List ℕ)) (text : List ℕ) → ((place : ℕ) → slice_get (table_of numbers) place ≢ Some text) → come ≡ numbers.come ++ text ∷ []
    → numbered_texts numbers.known come ≡ with_texts numbers (text ∷ [])
with_new numbers come text nowhere is =
    ap (numbered_texts numbers.known) (is ∙ ap (λ (l : List (List ℕ)). numbers.come ++ l) (sym (brings_one numbers text nowhere)))

pub count-new : (numbers : NumberedTexts) (text : List ℕ) → ((place : ℕ) → slice_get (table_of numbers) place ≢ Some text) → count_with numbers (text ∷ []) ≡ length numbers.known + length numbers.come + 1
count-new numbers text nowhere =
    let one = ap length (brings_one numbers text nowhere) in
    omega (arith, one, length-append numbers.known numbers.come)

-- the tables stay without doubles and small enough
pub numbered_more : (numbers : NumberedTexts) (text : List ℕ) → AreNumbered numbers → count_with numbers (text ∷ []) ≤ LABELS → AreNumbered (with_texts numbers (text ∷ []))
numbered_more numbers text are few = record {
  distinct = subst (λ (l : List (List ℕ)). AllPairs (λ a b. a ≢ b) l) (sym (table-with numbers (text ∷ []))) (first_uses_distinct (table_of numbers) (text ∷ []) are.distinct);
  few = (
      let sizes = ap length (table-with numbers (text ∷ [])) ∙ length-append (table_of numbers) (first_uses (table_of numbers) (text ∷ [])) in
      omega (arith, sizes, few));
}

-- the label of the last text
pub label-new : (numbers : NumberedTexts) (come : List (List ℕ)) (label : Label) (text : List ℕ) → AreNumbered (numbered_texts numbers.known come) → come ≡ numbers.come ++ text ∷ []
    → label.0 ≡ length numbers.known + length numbers.come → label ≡ label_in (table_of (numbered_texts numbers.known come)) text
label-new numbers come label text are is at =
    label_in-at (numbers.known ++ come) label text are.distinct
    (ap (λ (n : ℕ). slice_get (numbers.known ++ come) n) at
    ∙ slice_get-right numbers.known come (length numbers.come) text
    (ap (λ (l : List (List ℕ)). slice_get l (length numbers.come)) is ∙ last numbers.come))
  where
    last : (xs : List (List ℕ)) → slice_get (xs ++ text ∷ []) (length xs) ≡ Some text
    last [] = refl
    last (x ∷ xs) = last xs
