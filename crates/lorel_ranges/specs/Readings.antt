-- The text of a select as the program reads it: its places, what its items show, and the identifiers that it ranges.
use Rattle.std.specs.Prelude.{◌≡◌, ◌↔◌, ℕ, List, [], length, None, Contains, IsTrue}
use Rattle.std.specs.List.{flat_map}
use Rattle.lorel_trees.specs.Trees.{FromTree, ItemTree, path_of, SelectTree}
use Rattle.lorel_ranges.specs.Places as p
use Rattle.lorel_ranges.specs.Places.{Scope, scope_of, item_places, path_variables, word_place, item_cells}
use Rattle.lorel_ranges.specs.Conditions.{cond_places}
use Rattle.lorel_ranges.specs.Texts.{from_places, from_variables, cond_variables}
use Rattle.lorel_ranges.specs.Scopes.{IsScope, names_of}
use Rattle.lorel_ranges.specs.Views.{place_trees, shown_trees, texts}
use Rattle.lorel_ranges.specs.declared.text.Text.{Text}
use Rattle.lorel_ranges.specs.declared.text.ShownItems.{ShownItems}
use Rattle.lorel_ranges.specs.declared.text.TextPart.{TextPart}

-- from items are read: their places, what they range, and the variables in scope behind them
pub record ReadsFrom (items : List FromTree) (found : TextPart) (variables : List (List ℕ × ℕ)) : Type 0 where
  pub places : place_trees found.places.items ≡ from_places [] items
  pub ranged : texts found.ranged.items ≡ from_variables items
  pub scope : IsScope (names_of variables) (scope_of [] items)

-- an item names a path variable that isn't known
abbrev pub NamesUnknown : List (List ℕ × p.Place) → List ItemTree → Type 0
NamesUnknown known items = (variable : List ℕ) × Contains items (path_of variable) × (word_place known variable ≡ None)

-- items are read, where these path variables are known: their paths, and what they show
pub record ReadsItems (scope : Scope) (known : List (List ℕ × p.Place)) (items : List ItemTree) (read : ShownItems) : Type 0 where
  pub places : place_trees read.places.items ≡ flat_map (item_places scope) items
  pub cells : shown_trees read.cells.items ≡ flat_map (item_cells scope known) items
  pub unknown : IsTrue read.unknown ↔ NamesUnknown known items

-- the text of a select
pub record IsTextOf (query : SelectTree) (text : Text) : Type 0 where
  pub from : ReadsFrom query.tail.ranges text.from text.variables
  pub items : ReadsItems (scope_of [] query.tail.ranges) (path_variables query.tail.ranges) query.items text.items
  pub count : text.item_count ≡ length query.items
  pub conditions : place_trees text.condition.places.items ≡ cond_places query
  pub ranged : texts text.condition.ranged.items ≡ cond_variables query.tail.cond
