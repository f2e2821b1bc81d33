-- Path variables as the program keeps them: each is found to have the place that the text gives it.
use Rattle.std.proofs.Common.{◌≡◌, inl, inr, ℕ, true, false, true≢false, List, [], ◌∷◌, ◌++◌, map, Option, Some, None, is_some, Bor, refl, sym, ap, ◌∙◌}
use Rattle.std.specs.Map.{lookup}
use Rattle.std.specs.Str.{bytes_eq}
use Rattle.std.specs.Option.{option_map, option_or}
use Rattle.std.proofs.lemmas.Bool.{cases_Bool}
use Rattle.std.proofs.lemmas.List.{flat_map_more}
use Rattle.std.proofs.lemmas.Option.{none-some}
use Rattle.std.proofs.lemmas.Slice.Eq.{bytes_eq-Decides}
use Rattle.lorel_trees.specs.Trees.{FromTree}
use Rattle.lorel_ranges.specs.Places.{ranged, Place, at_root, item_path_variables, path_variables, word_place}
use Rattle.lorel_ranges.specs.inside.Scopes.{FindAlike}
use Rattle.lorel_ranges.specs.Views.{place_tree}
use Rattle.lorel_ranges.specs.declared.places.Place as declared

-- what is found among the program's entries
pub placed-by_reference : (entries : List (Bor (List ℕ) × declared.Place)) (variable : List ℕ)
    → option_map place_tree (lookup (λ (key : Bor (List ℕ)). bytes_eq variable key.now) entries)
    ≡ word_place (map (λ (entry : Bor (List ℕ) × declared.Place). (entry.0.now, place_tree entry.1)) entries) variable
placed-by_reference [] variable = refl
placed-by_reference (entry ∷ entries) variable = elim (cases_Bool (bytes_eq variable entry.0.now)) [
  | inl same ↦ rw same refl
  | inr apart ↦ rw apart (placed-by_reference entries variable)
]

-- where no place is found no entry is
pub no_place : (entries : List (Bor (List ℕ) × declared.Place)) (variable : List ℕ) (answer : Option declared.Place)
    → option_map place_tree answer
    ≡ word_place (map (λ (entry : Bor (List ℕ) × declared.Place). (entry.0.now, place_tree entry.1)) entries) variable
    → is_some answer ≡ false → lookup (λ (key : Bor (List ℕ)). bytes_eq variable key.now) entries ≡ None
no_place entries variable None is none =
    none_within (lookup (λ (key : Bor (List ℕ)). bytes_eq variable key.now) entries) (placed-by_reference entries variable ∙ sym is)
  where
    none_within : (found : Option declared.Place) → option_map place_tree found ≡ None → found ≡ None
    none_within None is = refl
    none_within (Some place) is = absurd (none-some (place_tree place) (sym is))
no_place entries variable (Some place) is none = absurd (true≢false none)

pub still_some : (answer : Option declared.Place) → is_some (option_map place_tree answer) ≡ is_some answer
still_some None = refl
still_some (Some place) = refl

-- ---- one path variable more
-- what is found stays as it is
kept : (variables : List (List ℕ × Place)) (own : List ℕ) (place : Place) (variable : List ℕ)
    → (bytes_eq variable own ≡ true → is_some (word_place variables variable) ≡ true)
    → word_place variables variable ≡ word_place (variables ++ (own, place) ∷ []) variable
kept [] own place variable there = elim (cases_Bool (bytes_eq variable own)) [
  | inl same ↦ (let some = there same in absurd cc)
  | inr apart ↦ rw apart refl
]
kept (entry ∷ variables) own place variable there = elim (cases_Bool (bytes_eq variable entry.0)) [
  | inl same ↦ rw same refl
  | inr apart ↦ rw apart (kept variables own place variable (rw apart at there))
]

-- one that is there already changes nothing
pub alike_kept : (variables : List (List ℕ × Place)) (own : List ℕ) (place : Place) → is_some (word_place variables own) ≡ true
    → FindAlike variables (variables ++ (own, place) ∷ [])
alike_kept variables own place some variable =
    kept variables own place variable (λ same. ap (λ v. is_some (word_place variables v)) ((bytes_eq-Decides variable own).0 same) ∙ some)

-- what isn't found in front is looked for behind
found_behind : (front behind : List (List ℕ × Place)) (variable : List ℕ)
    → word_place (front ++ behind) variable ≡ option_or (word_place front variable) (word_place behind variable)
found_behind [] behind variable = refl
found_behind (entry ∷ front) behind variable = elim (cases_Bool (bytes_eq variable entry.0)) [
  | inl same ↦ rw same refl
  | inr apart ↦ rw apart (found_behind front behind variable)
]

-- ---- one from item more
pub item_alone : (word variable : Option (List ℕ)) (own text : List ℕ) (place : Place) → word ≡ Some own → variable ≡ Some text
    → place ≡ at_root (ranged text) → (own, place) ∷ [] ≡ item_path_variables word variable
item_alone word variable own text place first second is =
    ap (λ p. (own, p) ∷ []) is ∙ sym (ap (λ w. item_path_variables w variable) first ∙ ap (item_path_variables (Some own)) second)

pub alike_more : (items : List FromTree) (item : FromTree) (old new : List (List ℕ × Place)) → FindAlike old (path_variables items)
    → FindAlike new (old ++ item_path_variables item.word item.variable) → FindAlike new (path_variables (items ++ item ∷ []))
alike_more items item old new before added variable =
    let more = item_path_variables item.word item.variable in
    added variable ∙ found_behind old more variable ∙ ap (λ o. option_or o (word_place more variable)) (before variable)
    ∙ sym (found_behind (path_variables items) more variable)
    ∙ ap (λ l. word_place l variable) (flat_map_more (λ (each : FromTree). item_path_variables each.word each.variable) [] items item)
