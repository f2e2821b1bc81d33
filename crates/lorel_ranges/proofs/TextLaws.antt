-- The text of a select as the program reads it: one from item more, one item more, and the conditions within quantifiers.
use Rattle.std.proofs.Common.{◌≡◌, ◌↔◌, ◌⊎◌, inl, inr, ℕ, suc, ◌+◌, true, false, true≢false, IsTrue, List, [], ◌∷◌, ◌++◌, length, map, Option, Some, None, Bor, subst, refl, sym, ap, ◌∙◌, append_assoc, arith}
use Rattle.std.specs.Option.{option_to_list}
use Rattle.std.proofs.lemmas.List.{append-nil, map-append, flat_map_more, length-map, length-append}
use Rattle.std.proofs.lemmas.List.Elements.{Contains-append_left, Contains-push, Contains-push_cases}
use Rattle.std.proofs.lemmas.Option.{none-some}
use Rattle.lore_base.proofs.MemberLaws.{Contains-none, Contains-same}
use Rattle.lorel_trees.specs.declared.conditions.Cond.{Exists, ForAll}
use Rattle.lorel_trees.specs.declared.conditions.Cond.TheOpen as layer
use Rattle.lorel_trees.specs.declared.conditions.Cond.TheVariants.{rolls-Exists, rolls-ForAll}
use Rattle.lorel_trees.specs.declared.conditions.Cond.TheFolds.{fold-roll-Cond}
use Rattle.lorel_trees.specs.Trees as t
use Rattle.lorel_trees.specs.Trees.{FromTree, ItemTree, CondTree, rooted_tree, cond_tree, cond_step, conds_step}
use Rattle.lorel_ranges.specs.Places as p
use Rattle.lorel_ranges.specs.Places.{quantified, Scope, place_of, scope_behind, scope_of, item_places, word_place, item_cells}
use Rattle.lorel_ranges.specs.Conditions.{cond_in}
use Rattle.lorel_ranges.specs.Texts.{from_places, item_variables, from_variables}
use Rattle.lorel_ranges.specs.Scopes.{enclosed, IsScope, names_of}
use Rattle.lorel_ranges.specs.inside.Scopes.{IsAdded}
use Rattle.lorel_ranges.specs.Views.{place_tree, place_trees, shown_tree, shown_trees, texts}
use Rattle.lorel_ranges.specs.Readings.{ReadsFrom, ReadsItems}
use Rattle.lorel_ranges.specs.declared.text.TextPart.{TextPart}
use Rattle.lorel_ranges.specs.declared.text.ShownItems.{ShownItems}
use Rattle.lorel_ranges.specs.declared.text.Shown.TheVariants.{Object, Word}
use Rattle.lorel_ranges.specs.declared.places.Place.{Place}
use Rattle.lorel_ranges.proofs.ScopeLaws.{IsScope-behind}

-- ---- one from item more
scope_of-push : (scope : Scope) (items : List FromTree) (item : FromTree) → scope_of scope (items ++ item ∷ []) ≡ scope_behind item.variable (scope_of scope items)
scope_of-push scope [] item = refl
scope_of-push scope (first ∷ items) item = scope_of-push (scope_behind first.variable scope) items item

from_places-push : (scope : Scope) (items : List FromTree) (item : FromTree)
    → from_places scope (items ++ item ∷ []) ≡ from_places scope items ++ place_of (scope_of scope items) item.path ∷ []
from_places-push scope [] item = refl
from_places-push scope (first ∷ items) item = ap (λ l. place_of scope first.path ∷ l) (from_places-push (scope_behind first.variable scope) items item)

from_variables-push : (items : List FromTree) (item : FromTree)
    → from_variables (items ++ item ∷ []) ≡ (from_variables items ++ item_variables item.word) ++ item_variables item.variable
from_variables-push items item =
    sym (flat_map_more (λ (each : FromTree). item_variables each.word ++ item_variables each.variable) [] items item)
    ∙ sym (append_assoc (from_variables items) (item_variables item.word) (item_variables item.variable))

pub ReadsFrom-push : (items : List FromTree) (item : FromTree) (number : ℕ) (found more : TextPart) (place : Place) (old new : List (List ℕ × ℕ))
    → ReadsFrom items found old
    → ((scope : Scope) → IsScope (names_of old) scope → place_tree place ≡ place_of scope item.path)
    → more.places.items ≡ found.places.items ++ place ∷ []
    → texts more.ranged.items ≡ (texts found.ranged.items ++ item_variables item.word) ++ item_variables item.variable
    → IsAdded item.variable number old new → ReadsFrom (items ++ item ∷ []) more new
ReadsFrom-push items item number found more place old new read is places ranged added = record {
  places = ap place_trees places ∙ map-append place_tree found.places.items (place ∷ [])
      ∙ (let here = is (scope_of [] items) read.scope in let front = read.places in cc) ∙ sym (from_places-push [] items item);
  ranged = ranged ∙ ap (λ l. (l ++ item_variables item.word) ++ item_variables item.variable) read.ranged ∙ sym (from_variables-push items item);
  scope = subst (IsScope (names_of new)) (sym (scope_of-push [] items item)) (IsScope-behind item.variable number old new (scope_of [] items) added read.scope);
}

-- ---- one item more
-- the item names a path variable that isn't known
abbrev IsUnknownItem : List (List ℕ × p.Place) → ItemTree → Type 0
IsUnknownItem known item = (variable : List ℕ) × (item ≡ t.path_of variable) × (word_place known variable ≡ None)

pub ReadsItems-none : (scope : Scope) (known : List (List ℕ × p.Place)) (none : ShownItems) → none.places.items ≡ [] → none.cells.items ≡ []
    → none.unknown ≡ false → ReadsItems scope known [] none
ReadsItems-none scope known none places cells unknown = record {
  places = ap place_trees places;
  cells = ap shown_trees cells;
  unknown = ((λ h. absurd (true≢false (sym h ∙ unknown))), (λ h. absurd (Contains-none (t.path_of h.0) h.1)));
}

module _ (scope : Scope) (known : List (List ℕ × p.Place)) (items : List ItemTree) (old new : ShownItems) (read : ReadsItems scope known items old) where
  ReadsItems-push : (item : ItemTree) → place_trees new.places.items ≡ place_trees old.places.items ++ item_places scope item
      → shown_trees new.cells.items ≡ shown_trees old.cells.items ++ item_cells scope known item
      → IsTrue new.unknown ↔ (IsTrue old.unknown ⊎ IsUnknownItem known item) → ReadsItems scope known (items ++ item ∷ []) new
  ReadsItems-push item places cells unknown = record {
    places = places ∙ ap (λ l. l ++ item_places scope item) read.places ∙ flat_map_more (item_places scope) [] items item;
    cells = cells ∙ ap (λ l. l ++ item_cells scope known item) read.cells ∙ flat_map_more (item_cells scope known) [] items item;
    unknown = (
      (λ h. elim (unknown.0 h) [
        | inl before ↦ (let was = read.unknown.0 before in (was.0, Contains-append_left items (item ∷ []) (t.path_of was.0) was.1, was.2))
        | inr here ↦ (here.0, Contains-same (items ++ item ∷ []) item (t.path_of here.0) here.1 (Contains-push items item), here.2)
      ]),
      (λ h. unknown.1 (elim (Contains-push_cases items item (t.path_of h.0) h.1) [
        | inl before ↦ inl (read.unknown.1 (h.0, before, h.2))
        | inr here ↦ inr (h.0, here, h.2)
      ])),
    );
  }

  -- an item that is known changes nothing of what is unknown
  still_unknown : (item : ItemTree) → new.unknown ≡ old.unknown → (IsUnknownItem known item → ⊥)
      → IsTrue new.unknown ↔ (IsTrue old.unknown ⊎ IsUnknownItem known item)
  still_unknown item same is_known = (
    (λ h. inl (sym same ∙ h)),
    (λ h. elim h [ inl before ↦ same ∙ before | inr here ↦ absurd (is_known here) ]),
  )

  -- the same item, said otherwise
  pub ReadsItems-same : (item other : ItemTree) → item ≡ other → ReadsItems scope known (items ++ other ∷ []) new
      → ReadsItems scope known (items ++ item ∷ []) new
  ReadsItems-same item other same is = subst (λ (i : ItemTree). ReadsItems scope known (items ++ i ∷ []) new) (sym same) is

  -- a path
  pub ReadsItems-object : (path : t.RootedTree) (place : Place) → place_tree place ≡ place_of scope path → new.places.items ≡ old.places.items ++ place ∷ []
      → new.cells.items ≡ old.cells.items ++ Object place ∷ [] → new.unknown ≡ old.unknown
      → ReadsItems scope known (items ++ t.object path ∷ []) new
  ReadsItems-object path place is places cells unknown =
      ReadsItems-push (t.object path)
      (ap place_trees places ∙ map-append place_tree old.places.items (place ∷ []) ∙ ap (λ (x : p.Place). place_trees old.places.items ++ x ∷ []) is)
      (ap shown_trees cells ∙ map-append shown_tree old.cells.items (Object place ∷ [])
      ∙ ap (λ (x : p.Place). shown_trees old.cells.items ++ p.object x ∷ []) is)
      (still_unknown (t.object path) unknown (λ h. (let apart : t.object path ≡ t.path_of h.0 = h.1 in absurd cc)))

  same_variable : (variable other : List ℕ) → t.path_of variable ≡ t.path_of other → variable ≡ other
  same_variable variable other same = cc

  -- a path variable that is known
  pub ReadsItems-word : (variable : List ℕ) (place : Place) → Some (place_tree place) ≡ word_place known variable → new.places.items ≡ old.places.items
      → new.cells.items ≡ old.cells.items ++ Word place ∷ [] → new.unknown ≡ old.unknown
      → ReadsItems scope known (items ++ t.path_of variable ∷ []) new
  ReadsItems-word variable place is places cells unknown =
      ReadsItems-push (t.path_of variable)
      (ap place_trees places ∙ sym (append-nil (place_trees old.places.items)))
      (ap shown_trees cells ∙ map-append shown_tree old.cells.items (Word place ∷ [])
      ∙ ap (λ (found : Option p.Place). shown_trees old.cells.items ++ map p.word (option_to_list found)) is)
      (still_unknown (t.path_of variable) unknown
      (λ h. none-some (place_tree place) (sym h.2 ∙ ap (word_place known) (sym (same_variable variable h.0 h.1)) ∙ sym is)))

  -- one that isn't
  pub ReadsItems-unknown : (variable : List ℕ) → None ≡ word_place known variable → new.places.items ≡ old.places.items
      → new.cells.items ≡ old.cells.items → new.unknown ≡ true → ReadsItems scope known (items ++ t.path_of variable ∷ []) new
  ReadsItems-unknown variable is places cells unknown =
      ReadsItems-push (t.path_of variable)
      (ap place_trees places ∙ sym (append-nil (place_trees old.places.items)))
      (ap shown_trees cells ∙ sym (append-nil (shown_trees old.cells.items))
      ∙ ap (λ (found : Option p.Place). shown_trees old.cells.items ++ map p.word (option_to_list found)) is)
      ((λ h. inr (variable, refl, sym is)), (λ h. unknown))

-- ---- within a further quantifier
enclosed-push : (depth : ℕ) (variables : List (List ℕ)) (variable : List ℕ) (scope : Scope)
    → enclosed depth (variables ++ variable ∷ []) scope ≡ (variable, quantified (depth + length variables)) ∷ enclosed depth variables scope
enclosed-push depth [] variable scope =
    let same : depth ≡ depth + 0 = omega arith in
    ap (λ (n : ℕ). (variable, quantified n) ∷ scope) same
enclosed-push depth (first ∷ variables) variable scope =
    let same : suc depth + length variables ≡ depth + suc (length variables) = omega arith in
    enclosed-push (suc depth) variables variable ((first, quantified depth) ∷ scope)
    ∙ ap (λ (n : ℕ). (variable, quantified n) ∷ enclosed (suc depth) variables ((first, quantified depth) ∷ scope)) same

-- the condition in the body of a quantifier
pub cond_in-body : (around inner : List (Bor (List ℕ))) (variable : List ℕ) (scope : Scope) (body : CondTree) → texts inner ≡ texts around ++ variable ∷ []
    → cond_in (enclosed 0 (texts inner) scope) (length inner) body
    ≡ cond_in ((variable, quantified (length around)) ∷ enclosed 0 (texts around) scope) (suc (length around)) body
cond_in-body around inner variable scope body is =
    let number : 0 + length (texts around) ≡ length around = omega (arith, length-map around (λ (text : Bor (List ℕ)). text.now)) in
    let here = ap (λ (l : List (List ℕ)). enclosed 0 l scope) is ∙ enclosed-push 0 (texts around) variable scope
    ∙ ap (λ (n : ℕ). (variable, quantified n) ∷ enclosed 0 (texts around) scope) number in
    let count : length inner ≡ suc (length around) =
    omega (arith, length-map inner (λ (text : Bor (List ℕ)). text.now), length-map around (λ (text : Bor (List ℕ)). text.now), ap length is, length-append (texts around) (variable ∷ [])) in
    ap (λ (l : Scope). cond_in l (length inner) body) here ∙ ap (λ (n : ℕ). cond_in ((variable, quantified (length around)) ∷ enclosed 0 (texts around) scope) n body) count

-- what is made of the plain data of a condition with a quantifier
pub exists_tree : (variable path body : _) → cond_tree (Exists variable path body) ≡ t.exists variable (rooted_tree path) (cond_tree body.value)
exists_tree variable path body = ap cond_tree (sym (rolls-Exists variable path body)) ∙ fold-roll-Cond CondTree (List CondTree) cond_step conds_step (layer.Exists variable path body)

pub for_all_tree : (variable path body : _) → cond_tree (ForAll variable path body) ≡ t.for_all variable (rooted_tree path) (cond_tree body.value)
for_all_tree variable path body = ap cond_tree (sym (rolls-ForAll variable path body)) ∙ fold-roll-Cond CondTree (List CondTree) cond_step conds_step (layer.ForAll variable path body)

pub quantified_tree : {X : Type 0} (f : CondTree → X) (x : X) (cond variable path body : _) → (cond ≡ Exists variable path body) ⊎ (cond ≡ ForAll variable path body)
    → f (t.exists variable (rooted_tree path) (cond_tree body.value)) ≡ x → f (t.for_all variable (rooted_tree path) (cond_tree body.value)) ≡ x
    → f (cond_tree cond) ≡ x
quantified_tree f x cond variable path body (inl is) first second = ap (λ c. f (cond_tree c)) is ∙ ap f (exists_tree variable path body) ∙ first
quantified_tree f x cond variable path body (inr is) first second = ap (λ c. f (cond_tree c)) is ∙ ap f (for_all_tree variable path body) ∙ second

-- what a quantifier adds to a list, and then what its body adds
pub map-quantified : {X Y : Type 0} (f : X → Y) (old pushed new : List X) (x : X) (y : Y) (behind all : List Y) → pushed ≡ old ++ x ∷ []
    → f x ≡ y → map f new ≡ map f pushed ++ behind → all ≡ y ∷ behind → map f new ≡ map f old ++ all
map-quantified {X} {Y} f old pushed new x y behind all is same more whole =
    more ∙ ap (λ (l : List X). map f l ++ behind) is ∙ ap (λ (l : List Y). l ++ behind) (map-append f old (x ∷ []))
    ∙ append_assoc (map f old) (f x ∷ []) behind
    ∙ ap (λ (z : Y). map f old ++ z ∷ behind) same ∙ ap (λ (l : List Y). map f old ++ l) (sym whole)
