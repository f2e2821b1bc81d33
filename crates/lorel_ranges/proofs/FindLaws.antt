-- The program's plain places are found: those of variables by these, the others among those that have parts.
use Rattle.std.proofs.Common.{◌≡◌, ℕ, ◌<◌, ◌≤◌, ◌⊎◌, inl, inr, List, [], length, get_or, take, map, true, false, Option, Some, None, is_some, IfSome, IfNone, All, refl, sym, ap, ◌∙◌, arith}
use Rattle.std.specs.List.{Contains, slice_get}
use Rattle.std.proofs.lemmas.List.{length-take-le, length-map, get_or-map, nil_from_length}
use Rattle.std.proofs.lemmas.List.Elements.{All-contains}
use Rattle.std.proofs.lemmas.Option.{same_Some, slice_get_within, get_or_from_slice_get}
use Rattle.list_laws.proofs.PlaceLaws.{Contains-from_place}
use denote.Ref.{Bor}
use Rattle.lore_base.specs.Paths.{PathTree, path_tree}
use Rattle.lorel_ranges.specs.Places.{ranged, Place, at_root}
use Rattle.lorel_ranges.specs.Scopes.{linked}
use Rattle.lorel_ranges.specs.Views.{root_tree, place_tree, place_trees, prefix_of}
use Rattle.lorel_ranges.specs.inside.Indexes.{IsVariable, IsPrefix, IsIndexed}
use Rattle.lorel_ranges.specs.declared.places.Place as declared
use Rattle.lorel_ranges.specs.declared.places.Root.TheVariants.{Ranged}
use Rattle.lorel_ranges.proofs.PlaceLaws.{place_from}

-- ---- answers of a search
cases_Option : (answer : Option ℕ) → (answer ≡ None) ⊎ ((number : ℕ) × (answer ≡ Some number))
cases_Option None = inl refl
cases_Option (Some number) = inr (number, refl)

pub found_some : (answer : Option ℕ) (P : ℕ → Type 0) → is_some answer ≡ true → IfSome answer P → (number : ℕ) × P number
found_some None P some h = absurd cc
found_some (Some number) P some h = (number, h)

pub found_none : (answer : Option ℕ) (P : Type 0) → is_some answer ≡ false → IfNone answer P → P
found_none None P none h = h
found_none (Some number) P none h = absurd cc

pub if_none : (answer : Option ℕ) (P : Type 0) → (answer ≡ None → P) → IfNone answer P
if_none None P h = h refl
if_none (Some number) P h = tt

pub none_weaker : (answer : Option ℕ) (P Q : Type 0) → (P → Q) → IfNone answer P → IfNone answer Q
none_weaker None P Q weaker h = weaker h
none_weaker (Some number) P Q weaker h = tt

-- what is read at a number stands for what is there
pub place_read : (all : List declared.Place) (number : ℕ) (read : declared.Place) (place : Place) → read ≡ get_or all number read
    → slice_get (place_trees all) number ≡ Some place → place_tree read ≡ place
place_read all number read place is stands =
    let within : number < length all = omega (arith, slice_get_within (place_trees all) number place stands, length-map all place_tree) in
    ap place_tree is ∙ sym (get_or-map place_tree all number read place within) ∙ get_or_from_slice_get (place_trees all) number place place stands

-- the place of a variable, as it is written
pub variable_place : (place : declared.Place) (variable : Bor (List ℕ)) → place.root ≡ Ranged variable → length place.parts.now ≡ 0
    → place_tree place ≡ at_root (ranged variable.now)
variable_place place variable root empty =
    place_from (place_tree place) (at_root (ranged variable.now)) (ap root_tree root) (ap (map path_tree) (nil_from_length place.parts.now empty))

-- ---- places with parts, and those of variables
-- a place that isn't among those with parts is a variable's, where it is there at all
pub unprefixed : (all : List Place) (prefixes : List ℕ) (variables : List (List ℕ × ℕ)) (place : Place) → IsIndexed all prefixes variables
    → All (λ number. slice_get all number ≡ Some place → ⊥) prefixes → Contains all place → IsVariable place
unprefixed all prefixes variables place indexed none at = elim (indexed.known place at) [
  | inl named ↦ (named.0, named.2)
  | inr prefix ↦ absurd (All-contains (λ number. slice_get all number ≡ Some place → ⊥) prefixes prefix.0 none prefix.1 prefix.2)
]

-- what has parts is no variable's place
pub parts_unvariable : (place : Place) → (place.parts ≡ [] → ⊥) → IsVariable place → ⊥
parts_unvariable place has_parts variable = has_parts (ap (λ (p : Place). p.parts) variable.1)

pub prefix_has_parts : (parts : List PathTree) (len : ℕ) → 0 < len → len ≤ length parts → take len parts ≡ [] → ⊥
prefix_has_parts parts len some within none = let long = length-take-le len parts within in let zero_parts = ap length none in omega arith

pub prefix_unvariable : (place : Place) (len : ℕ) → 0 < len → len ≤ length place.parts → IsVariable (prefix_of len place) → ⊥
prefix_unvariable place len some within = parts_unvariable (prefix_of len place) (prefix_has_parts place.parts len some within)

-- the number that a variable is linked to is that of its place
pub linked_stands : (all : List Place) (prefixes : List ℕ) (variables : List (List ℕ × ℕ)) (variable : List ℕ) (answer : Option ℕ)
    → IsIndexed all prefixes variables → answer ≡ linked variables variable
    → IfSome answer (λ number. slice_get all number ≡ Some (at_root (ranged variable)))
linked_stands all prefixes variables variable None indexed is = tt
linked_stands all prefixes variables variable (Some number) indexed is = indexed.named variable number (sym is)

-- a variable that isn't linked has no place
pub unlinked : (all : List Place) (prefixes : List ℕ) (variables : List (List ℕ × ℕ)) (variable : List ℕ) → IsIndexed all prefixes variables
    → linked variables variable ≡ None → Contains all (at_root (ranged variable)) → ⊥
unlinked all prefixes variables variable indexed none at = elim (indexed.known (at_root (ranged variable)) at) [
  | inl named ↦
      let root = ap (λ (p : Place). p.root) named.2 in
      let same : variable ≡ named.0 = cc in
      let here = ap (linked variables) same ∙ named.3 in
      cc
  | inr prefix ↦
      let kept = All-contains (IsPrefix all) prefixes prefix.0 indexed.kept prefix.1 in
      let place = same_Some (at_root (ranged variable)) kept.place (sym prefix.2 ∙ kept.stands) in
      absurd (kept.has_parts (sym (ap (λ (p : Place). p.parts) place)))
]

-- a variable whose place isn't there isn't linked
pub absent_unlinked : (all : List Place) (prefixes : List ℕ) (variables : List (List ℕ × ℕ)) (variable : List ℕ) → IsIndexed all prefixes variables
    → (Contains all (at_root (ranged variable)) → ⊥) → linked variables variable ≡ None
absent_unlinked all prefixes variables variable indexed absent = elim (cases_Option (linked variables variable)) [
  | inl none ↦ none
  | inr some ↦ absurd (absent (Contains-from_place all some.0 (at_root (ranged variable)) (indexed.named variable some.0 some.1)))
]
