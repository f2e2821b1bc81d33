-- A set of texts in the order in which they came: where a text stands, one text more, and the texts of another set.
use Rattle.std.proofs.Common.{◌≡◌, ◌≢◌, ℕ, zero, suc, ◌+◌, ◌^◌, ◌<◌, Bool, true, false, ◌||◌, if◌then◌else◌, List, [], ◌∷◌, ◌++◌, length, get_or, Some, position, slice_get, AllPairs, refl, sym, ap, subst, inl, inr, ◌∙◌, arith, length-append, append-nil, true≢false}
use Rattle.std.specs.List.{list_any}
use Rattle.std.specs.Str.{bytes_eq}
use Rattle.std.proofs.lemmas.List.{get_or_at, get_or_append_left}
use Rattle.std.proofs.lemmas.Option.{none-some, same_Some, slice_get-get_or, slice_get_within, get_or_from_slice_get}
use Rattle.std.proofs.lemmas.List.Quantifiers.{position-Some, all_pairs_push}
use Rattle.std.proofs.lemmas.Slice.Eq.{bytes_eq-Decides}
use Rattle.std.proofs.lemmas.Bool.{cases_Bool}
use Rattle.indexmap.specs.IndexSet.{insert_key, insert_all}
use Rattle.oem_labels.specs.Labels.{AreLabels, first_uses}
use Rattle.oem_labels.proofs.LabelLaws.{pushed, first_uses-new}

pub text_at : (text : List ℕ) (texts : List (List ℕ)) (i : ℕ) → position (bytes_eq text) texts ≡ Some i → slice_get texts i ≡ Some text
text_at text [] i h = absurd (none-some i h)
text_at text (first ∷ texts) i h =
    let at = position-Some (bytes_eq text) (first ∷ texts) i first h in
    let same : text ≡ get_or (first ∷ texts) i first = (bytes_eq-Decides text (get_or (first ∷ texts) i first)).0 at.1 in
    slice_get-get_or (first ∷ texts) i first at.0 ∙ ap (λ (t : List ℕ). Some t) (sym same)

pub text_nowhere : (text : List ℕ) (texts : List (List ℕ)) (i : ℕ) → list_any (bytes_eq text) texts ≡ false → slice_get texts i ≢ Some text
text_nowhere text [] i none h = none-some text h
text_nowhere text (first ∷ texts) zero none h =
    let same : first ≡ text = same_Some first text h in
    let passes = (bytes_eq-Decides text first).1 (sym same) in
    true≢false (sym (ap (λ b. b || list_any (bytes_eq text) texts) passes) ∙ none)
text_nowhere text (first ∷ texts) (suc i) none h = text_nowhere text texts i (right (bytes_eq text first) (list_any (bytes_eq text) texts) none) h
  where
    right : (b c : Bool) → (b || c) ≡ false → c ≡ false
    right true c e = absurd (true≢false e)
    right false c e = e

pub no_text : (text : List ℕ) (texts : List (List ℕ)) → ((i : ℕ) → slice_get texts i ≢ Some text) → list_any (bytes_eq text) texts ≡ false
no_text text [] nowhere = refl
no_text text (first ∷ texts) nowhere =
    elim (cases_Bool (bytes_eq text first)) [
      | inl e ↦ absurd (nowhere 0 (ap (λ (t : List ℕ). Some t) (sym ((bytes_eq-Decides text first).0 e))))
      | inr e ↦ ap (λ b. b || list_any (bytes_eq text) texts) e ∙ no_text text texts (λ i. nowhere (suc i))
    ]

pub one_text_more : (texts : List (List ℕ)) (text : List ℕ) → ((i : ℕ) → slice_get texts i ≢ Some text) → insert_key bytes_eq texts text ≡ texts ++ text ∷ []
one_text_more texts text nowhere = ap (λ b. if b then texts else texts ++ text ∷ []) (no_text text texts nowhere)

-- where a text stands twice in no list, it doesn't stand before itself
apart_at : (front : List (List ℕ)) (text : List ℕ) (back : List (List ℕ)) (i : ℕ) → AllPairs (λ a b. a ≢ b) (front ++ text ∷ back) → slice_get front i ≢ Some text
apart_at front text back i apart h =
    let low = slice_get_within front i text h in
    let here : length front < length (front ++ text ∷ back) = omega (arith, length-append front (text ∷ back)) in
    apart i (length front) text low here
    (get_or_append_left front (text ∷ back) text i low ∙ get_or_from_slice_get front i text text h ∙ sym (get_or_at front text back text (length front) refl))

pub texts_more : (texts others : List (List ℕ)) → AllPairs (λ a b. a ≢ b) (texts ++ others) → insert_all bytes_eq texts others ≡ texts ++ others
texts_more texts [] apart = sym (append-nil texts)
texts_more texts (text ∷ others) apart =
    let one = one_text_more texts text (λ i h. apart_at texts text others i apart h) in
    let regroup = ap (λ l. l ++ others) one ∙ pushed texts text others in
    texts_more (insert_key bytes_eq texts text) others (subst (AllPairs (λ a b. a ≢ b)) (sym regroup) apart) ∙ regroup

-- texts that stand nowhere else are all used first
pub first_uses-apart : (known texts : List (List ℕ)) → AllPairs (λ a b. a ≢ b) (known ++ texts) → first_uses known texts ≡ texts
first_uses-apart known [] apart = refl
first_uses-apart known (text ∷ texts) apart =
    first_uses-new known text texts (no_text text known (λ i h. apart_at known text texts i apart h))
    ∙ ap (λ l. text ∷ l) (first_uses-apart (known ++ text ∷ []) texts (subst (AllPairs (λ a b. a ≢ b)) (sym (pushed known text texts)) apart))

-- a list of texts stays apart with one that stands nowhere in it
pub apart_push : (texts : List (List ℕ)) (text : List ℕ) → AllPairs (λ a b. a ≢ b) texts → ((i : ℕ) → slice_get texts i ≢ Some text)
    → AllPairs (λ a b. a ≢ b) (texts ++ text ∷ [])
apart_push texts text apart nowhere =
    all_pairs_push (λ a b. a ≢ b) texts text apart (λ k d low same. nowhere k (slice_get-get_or texts k d low ∙ ap (λ (t : List ℕ). Some t) same))

-- and is a list of labels where a number still counts it
pub labels_push : (texts : List (List ℕ)) (text : List ℕ) → AreLabels texts → ((i : ℕ) → slice_get texts i ≢ Some text) → length texts + 1 < 2 ^ 32
    → AreLabels (texts ++ text ∷ [])
labels_push texts text labels nowhere few = record {
  distinct = apart_push texts text labels.distinct nowhere;
  few = omega (arith, few, length-append texts (text ∷ []));
}
