-- What the cells of a select show: objects of the paths of its items, and words of ranges that its from items make.
use Rattle.std.proofs.Common.{◌≡◌, ℕ, ◌⊎◌, inl, inr, List, [], ◌∷◌, ◌++◌, map, Option, Some, None, refl, sym, ap, ◌∙◌, subst}
use Rattle.std.specs.List.{Contains, flat_map}
use Rattle.std.specs.Option.{option_to_list}
use Rattle.std.proofs.lemmas.List.{map-append}
use Rattle.std.proofs.lemmas.List.Elements.{Contains-append_left, Contains-append_right, Contains-append_cases}
use Rattle.std.proofs.lemmas.Map.Views.{Contains-from_lookup}
use Rattle.std.proofs.lemmas.Slice.Eq.{bytes_eq-Decides}
use Rattle.lore_base.proofs.MemberLaws.{Contains-none, Contains-head, Contains-tail, Contains-cases, Contains-same}
use Rattle.lorel_trees.specs.Trees.{FromTree, ItemTree, SelectTree}
use Rattle.lorel_trees.specs.Trees as t
use Rattle.lorel_ranges.specs.Places.{ranged, Place, at_root, Scope, place_of, scope_behind, scope_of, item_places, cell_places, item_path_variables, path_variables, CellPlace, object, word, word_place, item_cells, cells_of}
use Rattle.lorel_ranges.specs.Ranges.{PlacedRange, path_ranges, from_item_ranges, from_ranges, places, ArePlain, IsNeededForWord}
use Rattle.lore_base.proofs.ToldLaws.{IsTold, told_same, told_both, told_either, told_member}
use Rattle.list_laws.proofs.MemberLaws.{Contains-from_map}
use Rattle.lorel_bound.proofs.ListedLaws.{listed_members, told_some}
use Rattle.lorel_ranges.proofs.PlaceLaws.{told_place}
use Rattle.lorel_ranges.proofs.PlainLaws.{made_within}

-- cells can be told apart
pub told_cell : (a b : CellPlace) → IsTold (a ≡ b)
told_cell (object a) (object b) = told_same (λ same. ap object same) (λ same. cc) (told_place a b)
told_cell (word a) (word b) = told_same (λ same. ap word same) (λ same. cc) (told_place a b)
told_cell _ _ = inr (λ same. cc)

-- ---- objects
module _ (scope : Scope) (variables : List (List ℕ × Place)) where
  abbrev CellsOf : List ItemTree → List CellPlace
  CellsOf items = flat_map (item_cells scope variables) items

  -- a word is no object
  object_behind : (found : Option Place) (others : List CellPlace) (place : Place)
      → Contains (map word (option_to_list found) ++ others) (object place) → Contains others (object place)
  object_behind None others place here = here
  object_behind (Some own) others place here = elim (Contains-cases (word own) others (object place) here) [
    | inl same ↦ absurd cc
    | inr later ↦ later
  ]

  objects_shown : (items : List ItemTree) (place : Place) → Contains (CellsOf items) (object place)
      → Contains (flat_map (item_places scope) items) place
  objects_shown [] place here = absurd (Contains-none (object place) here)
  objects_shown (t.object path ∷ items) place here =
      let first = place_of scope path in
      let others = flat_map (item_places scope) items in
      elim (Contains-cases (object first) (CellsOf items) (object place) here) [
        | inl same ↦ (let own : first ≡ place = cc in Contains-same (first ∷ others) first place own (Contains-head first others))
        | inr later ↦ Contains-tail first others place (objects_shown items place later)
      ]
  objects_shown (t.path_of variable ∷ items) place here =
      objects_shown items place (object_behind (word_place variables variable) (CellsOf items) place here)

  -- ---- words
  -- a word is that of a path variable, or a later one
  word_first : (variable : List ℕ) (found : Option Place) (others : List CellPlace) (place : Place) → word_place variables variable ≡ found
      → Contains (map word (option_to_list found) ++ others) (word place)
      → Contains variables (variable, place) ⊎ Contains others (word place)
  word_first variable None others place is here = inr here
  word_first variable (Some own) others place is here = elim (Contains-cases (word own) others (word place) here) [
    | inl same ↦
        let own_is : own ≡ place = cc in
        inl (Contains-from_lookup (λ x y equal. (bytes_eq-Decides x y).0 equal) variable place variables
        (is ∙ ap (λ (p : Place). Some p) own_is))
    | inr later ↦ inr later
  ]

  words_shown : (items : List ItemTree) (place : Place) → Contains (CellsOf items) (word place)
      → (variable : List ℕ) × Contains variables (variable, place)
  words_shown [] place here = absurd (Contains-none (word place) here)
  words_shown (t.object path ∷ items) place here =
      elim (Contains-cases (object (place_of scope path)) (CellsOf items) (word place) here) [
        | inl same ↦ absurd cc
        | inr later ↦ words_shown items place later
      ]
  words_shown (t.path_of variable ∷ items) place here =
      elim (word_first variable (word_place variables variable) (CellsOf items) place refl here) [
        | inl own ↦ (variable, own)
        | inr later ↦ words_shown items place later
      ]

-- the object that a cell shows is that of a path of the items
pub object_shown : (query : SelectTree) (place : Place) → Contains (cells_of query) (object place) → Contains (cell_places query) place
object_shown query place here =
    objects_shown (scope_of [] query.tail.ranges) (path_variables query.tail.ranges) query.items place here

-- ---- ranges of path variables
item_ranged : (own variable : Option (List ℕ)) (path : Place) (name : List ℕ) (place : Place)
    → Contains (item_path_variables own variable) (name, place) → Contains (places (from_item_ranges variable path)) place
item_ranged (Some own) (Some variable) path name place here =
    elim (Contains-cases (own, at_root (ranged variable)) [] (name, place) here) [
      | inl same ↦ Contains-same (at_root (ranged variable) ∷ []) (at_root (ranged variable)) place
          (ap (λ (entry : List ℕ × Place). entry.1) same) (Contains-head (at_root (ranged variable)) [])
      | inr none ↦ absurd (Contains-none (name, place) none)
    ]
item_ranged (Some own) None path name place here = absurd (Contains-none (name, place) here)
item_ranged None (Some variable) path name place here = absurd (Contains-none (name, place) here)
item_ranged None None path name place here = absurd (Contains-none (name, place) here)

variables_ranged : (scope : Scope) (items : List FromTree) (name : List ℕ) (place : Place) → Contains (path_variables items) (name, place)
    → Contains (places (from_ranges scope items)) place
variables_ranged scope [] name place here = absurd (Contains-none (name, place) here)
variables_ranged scope (item ∷ items) name place here =
    let own = from_item_ranges item.variable (place_of scope item.path) in
    let others = from_ranges (scope_behind item.variable scope) items in
    let all = map-append (λ (r : PlacedRange). r.place) own others in
    subst (λ (ps : List Place). Contains ps place) (sym all)
    (elim (Contains-append_cases (item_path_variables item.word item.variable) (path_variables items) (name, place) here) [
      | inl first ↦ Contains-append_left (places own) (places others) place
          (item_ranged item.word item.variable (place_of scope item.path) name place first)
      | inr later ↦ Contains-append_right (places own) (places others) place
          (variables_ranged (scope_behind item.variable scope) items name place later)
    ])

-- the word that a cell shows is that of a plain range
pub word_found : (query : SelectTree) (plain : List PlacedRange) → ArePlain query plain → (place : Place) → Contains (cells_of query) (word place)
    → Contains (places plain) place
word_found query plain gathered place here =
    let from = from_ranges [] query.tail.ranges in
    let others = flat_map path_ranges (cell_places query) in
    let own = words_shown (scope_of [] query.tail.ranges) (path_variables query.tail.ranges) query.items place here in
    let all = map-append (λ (r : PlacedRange). r.place) from others in
    made_within query plain gathered place
    (subst (λ (ps : List Place). Contains ps place) (sym all)
    (Contains-append_left (places from) (places others) place (variables_ranged [] query.tail.ranges own.0 place own.1)))

-- which is needed for it
pub word_range : (query : SelectTree) (plain : List PlacedRange) → ArePlain query plain → (place : Place) → Contains (cells_of query) (word place)
    → IsNeededForWord query plain place
word_range query plain gathered place here =
    let own = Contains-from_map (λ (r : PlacedRange). r.place) plain place (word_found query plain gathered place here) in
    (own.0, own.1, subst (λ (p : Place). Contains (cells_of query) (word p)) (sym own.2) here, inl own.2)

-- ---- whether a place is needed for a word
pub told_needed : (query : SelectTree) (ranges : List PlacedRange) (place : Place) → IsTold (IsNeededForWord query ranges place)
told_needed query ranges place =
    told_same (λ h. (h.0, h.1, h.2.0, h.2.1)) (λ h. (h.0, h.1, (h.2, h.3)))
    (told_some (Contains ranges) (λ range. Contains (cells_of query) (word range.place) × ((range.place ≡ place) ⊎ (range.start ≡ place)))
    (listed_members ranges)
    (λ range. told_both (told_member told_cell (cells_of query) (word range.place))
    (told_either (told_place range.place place) (told_place range.start place))))
