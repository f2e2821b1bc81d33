-- Places that are found stay so when one more is put behind them, and that one is found too: by its variable or its parts.
use Rattle.std.proofs.Common.{◌≡◌, ℕ, ◌⊎◌, inl, inr, List, [], ◌∷◌, ◌++◌, length, Some, None, refl, sym, ap, ◌∙◌, subst}
use Rattle.std.specs.List.{Contains, slice_get}
use Rattle.std.specs.Str.{bytes_eq}
use Rattle.std.proofs.lemmas.Bool.{cases_Bool}
use Rattle.std.proofs.lemmas.List.Elements.{All-push, All-weaker, Contains-append_left, Contains-push, Contains-push_cases}
use Rattle.std.proofs.lemmas.List.{map-append, length-map}
use Rattle.std.proofs.lemmas.Option.{same_Some}
use Rattle.std.proofs.lemmas.Slice.Eq.{bytes_eq-Decides}
use Rattle.list_laws.proofs.PlaceLaws.{slice_get-append_left, slice_get-push}
use Rattle.lorel_ranges.specs.Places.{ranged, Place, at_root}
use Rattle.lorel_ranges.specs.Scopes.{linked}
use Rattle.lorel_ranges.specs.Views.{place_tree, place_trees}
use Rattle.lorel_ranges.specs.inside.Indexes.{IsPrefix, IsIndexed}
use Rattle.lorel_ranges.specs.declared.places.Place as declared

-- ---- one more variable
linked-push_cases : (variables : List (List ℕ × ℕ)) (variable : List ℕ) (number : ℕ) (other : List ℕ) (found : ℕ)
    → linked (variables ++ (variable, number) ∷ []) other ≡ Some found → (linked variables other ≡ Some found) ⊎ ((variable ≡ other) × (number ≡ found))
linked-push_cases [] variable number other found is = elim (cases_Bool (bytes_eq other variable)) [
  | inl same ↦ inr (sym ((bytes_eq-Decides other variable).0 same), same_Some number found (rw same at is))
  | inr apart ↦ (let none = rw apart at is in cc)
]
linked-push_cases (entry ∷ variables) variable number other found is = elim (cases_Bool (bytes_eq other entry.0)) [
  | inl same ↦ inl (rw same (rw same at is))
  | inr apart ↦ rw apart (linked-push_cases variables variable number other found (rw apart at is))
]

linked-push_kept : (variables : List (List ℕ × ℕ)) (variable : List ℕ) (number : ℕ) (other : List ℕ) (found : ℕ)
    → linked variables other ≡ Some found → linked (variables ++ (variable, number) ∷ []) other ≡ Some found
linked-push_kept [] variable number other found is = cc
linked-push_kept (entry ∷ variables) variable number other found is = elim (cases_Bool (bytes_eq other entry.0)) [
  | inl same ↦ rw same (rw same at is)
  | inr apart ↦ rw apart (linked-push_kept variables variable number other found (rw apart at is))
]

linked-push_last : (variables : List (List ℕ × ℕ)) (variable : List ℕ) (number : ℕ) → linked variables variable ≡ None
    → linked (variables ++ (variable, number) ∷ []) variable ≡ Some number
linked-push_last [] variable number none = rw ((bytes_eq-Decides variable variable).1 refl) refl
linked-push_last (entry ∷ variables) variable number none = elim (cases_Bool (bytes_eq variable entry.0)) [
  | inl same ↦ (let some = rw same at none in cc)
  | inr apart ↦ rw apart (linked-push_last variables variable number (rw apart at none))
]

-- ---- one more place
abbrev IsFoundIn : List Place → List ℕ → List (List ℕ × ℕ) → Place → Type 0
IsFoundIn all prefixes variables place =
    ((variable : List ℕ) × (number : ℕ) × (place ≡ at_root (ranged variable)) × (linked variables variable ≡ Some number))
    ⊎ ((number : ℕ) × Contains prefixes number × (slice_get all number ≡ Some place))

IsPrefix-more : (all : List Place) (more : List Place) (number : ℕ) → IsPrefix all number → IsPrefix (all ++ more) number
IsPrefix-more all more number prefix =
    record { place = prefix.place; stands = slice_get-append_left all more number prefix.place prefix.stands; has_parts = prefix.has_parts }

pub indexed_variable : (all : List Place) (prefixes : List ℕ) (variables : List (List ℕ × ℕ)) (variable : List ℕ) (number : ℕ)
    → IsIndexed all prefixes variables → number ≡ length all → linked variables variable ≡ None
    → IsIndexed (all ++ at_root (ranged variable) ∷ []) prefixes (variables ++ (variable, number) ∷ [])
indexed_variable all prefixes variables variable number indexed counted none = record {
  named = λ other found is. elim (linked-push_cases variables variable number other found is) [
    | inl before ↦ slice_get-append_left all (here ∷ []) found (at_root (ranged other)) (indexed.named other found before)
    | inr last ↦ ap (λ n. slice_get (all ++ here ∷ []) n) (sym last.1 ∙ counted) ∙ slice_get-push all here
        ∙ ap (λ v. Some (at_root (ranged v))) last.0
  ];
  kept = All-weaker (IsPrefix all) (IsPrefix (all ++ here ∷ [])) (IsPrefix-more all (here ∷ [])) prefixes indexed.kept;
  known = λ place at. elim (Contains-push_cases all here place at) [
    | inl before ↦ kept place (indexed.known place before)
    | inr same ↦ inl (variable, number, sym same, linked-push_last variables variable number none)
  ];
}
  where
    here : Place
    here = at_root (ranged variable)

    kept : (place : Place) → IsFoundIn all prefixes variables place
        → IsFoundIn (all ++ here ∷ []) prefixes (variables ++ (variable, number) ∷ []) place
    kept place (inl named) = inl (named.0, named.1, named.2, linked-push_kept variables variable number named.0 named.1 named.3)
    kept place (inr prefix) = inr (prefix.0, prefix.1, slice_get-append_left all (here ∷ []) prefix.0 place prefix.2)

pub indexed_prefix : (all : List Place) (prefixes : List ℕ) (variables : List (List ℕ × ℕ)) (place : Place) (number : ℕ)
    → IsIndexed all prefixes variables → number ≡ length all → (place.parts ≡ [] → ⊥)
    → IsIndexed (all ++ place ∷ []) (prefixes ++ number ∷ []) variables
indexed_prefix all prefixes variables place number indexed counted has_parts = record {
  named = λ other found is. slice_get-append_left all (place ∷ []) found (at_root (ranged other)) (indexed.named other found is);
  kept = All-push (IsPrefix (all ++ place ∷ [])) prefixes number
      (All-weaker (IsPrefix all) (IsPrefix (all ++ place ∷ [])) (IsPrefix-more all (place ∷ [])) prefixes indexed.kept)
      (record { place = place; stands = last; has_parts = has_parts });
  known = λ other at. elim (Contains-push_cases all place other at) [
    | inl before ↦ kept other (indexed.known other before)
    | inr same ↦ inr (number, Contains-push prefixes number, last ∙ ap Some same)
  ];
}
  where
    last : slice_get (all ++ place ∷ []) number ≡ Some place
    last = ap (λ n. slice_get (all ++ place ∷ []) n) counted ∙ slice_get-push all place

    kept : (other : Place) → IsFoundIn all prefixes variables other → IsFoundIn (all ++ place ∷ []) (prefixes ++ number ∷ []) variables other
    kept other (inl named) = inl named
    kept other (inr prefix) = inr (
      prefix.0,
      Contains-append_left prefixes (number ∷ []) prefix.0 prefix.1,
      slice_get-append_left all (place ∷ []) prefix.0 other prefix.2,
    )

-- ---- as the program puts them
pub variable_put : (old new : List declared.Place) (place : declared.Place) (prefixes : List ℕ) (variables more : List (List ℕ × ℕ)) (variable : List ℕ)
    (number : ℕ) → IsIndexed (place_trees old) prefixes variables → number ≡ length old → linked variables variable ≡ None
    → place_tree place ≡ at_root (ranged variable) → more ≡ variables ++ (variable, number) ∷ [] → new ≡ old ++ place ∷ []
    → IsIndexed (place_trees new) prefixes more
variable_put old new place prefixes variables more variable number indexed counted none is added put =
    let all : place_trees new ≡ place_trees old ++ at_root (ranged variable) ∷ [] =
    ap place_trees put ∙ map-append place_tree old (place ∷ []) ∙ ap (λ (p : Place). place_trees old ++ p ∷ []) is in
    subst (λ (vs : List (List ℕ × ℕ)). IsIndexed (place_trees new) prefixes vs) (sym added)
    (subst (λ (ps : List Place). IsIndexed ps prefixes (variables ++ (variable, number) ∷ [])) (sym all)
    (indexed_variable (place_trees old) prefixes variables variable number indexed (counted ∙ sym (length-map old place_tree)) none))

pub prefix_put : (old new : List declared.Place) (place : declared.Place) (prefixes more : List ℕ) (variables : List (List ℕ × ℕ)) (number : ℕ)
    → IsIndexed (place_trees old) prefixes variables → number ≡ length old → ((place_tree place).parts ≡ [] → ⊥)
    → more ≡ prefixes ++ number ∷ [] → new ≡ old ++ place ∷ [] → IsIndexed (place_trees new) more variables
prefix_put old new place prefixes more variables number indexed counted has_parts added put =
    let all : place_trees new ≡ place_trees old ++ place_tree place ∷ [] = ap place_trees put ∙ map-append place_tree old (place ∷ []) in
    subst (λ (ns : List ℕ). IsIndexed (place_trees new) ns variables) (sym added)
    (subst (λ (ps : List Place). IsIndexed ps (prefixes ++ number ∷ []) variables) (sym all)
    (indexed_prefix (place_trees old) prefixes variables (place_tree place) number indexed (counted ∙ sym (length-map old place_tree)) has_parts))
