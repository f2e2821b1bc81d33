-- What the paths of a select stand for: places, which are starts with the parts behind them.
use Rattle.std.specs.Prelude.{ℕ, List, [], ◌∷◌, ◌++◌, map, Option, Some, None, if◌then◌else◌}
use Rattle.std.specs.Str.{bytes_eq}
use Rattle.std.specs.List.{flat_map}
use Rattle.std.specs.Map.{lookup}
use Rattle.std.specs.Option.{option_to_list}
use Rattle.lore_base.specs.Paths.{PathTree}
use Rattle.lorel_trees.specs.Trees.{RootedTree, FromTree, ItemTree, SelectTree}
use Rattle.lorel_trees.specs.Trees as t

-- where a path starts: at a name, at the variable of a from item, or at that of a quantifier, which are numbered from
-- the outermost on
pub data Root : Type 0 where
  named : (name : List ℕ) → Root
  ranged : (variable : List ℕ) → Root
  quantified : (depth : ℕ) → Root

-- an object that the text speaks of: a start and the parts of a path that lead on from it
pub record Place : Type 0 where
  pub root : Root
  pub parts : List PathTree

-- the start itself
abbrev pub at_root : Root → Place
at_root root = record { root = root; parts = [] }

-- further parts behind a place
abbrev pub beyond : Place → List PathTree → Place
beyond place parts = record { root = place.root; parts = place.parts ++ parts }

-- the variables in scope, the innermost first
abbrev pub Scope : Type 0
Scope = List (List ℕ × Root)

-- what an identifier at the start of a path means: a variable in scope, otherwise a name
abbrev pub root_of : Scope → List ℕ → Root
root_of [] start = named start
root_of (entry ∷ scope) start = if bytes_eq entry.0 start then entry.1 else root_of scope start

-- what a path stands for
abbrev pub place_of : Scope → RootedTree → Place
place_of scope path = record { root = root_of scope path.start; parts = path.parts }

-- the object variable of a from item comes into scope behind it
abbrev pub scope_behind : Option (List ℕ) → Scope → Scope
scope_behind (Some variable) scope = (variable, ranged variable) ∷ scope
scope_behind None scope = scope

-- behind all from items each of their object variables is in scope
abbrev pub scope_of : Scope → List FromTree → Scope
scope_of scope [] = scope
scope_of scope (item ∷ items) = scope_of (scope_behind item.variable scope) items

-- the places whose objects the cells of a row show
abbrev pub item_places : Scope → ItemTree → List Place
item_places scope (t.object path) = place_of scope path ∷ []
item_places scope (t.path_of variable) = []

abbrev pub cell_places : SelectTree → List Place
cell_places query = flat_map (item_places (scope_of [] query.tail.ranges)) query.items

-- the path variables of from items, each with the place of its range; one stands only before an object variable
abbrev pub item_path_variables : Option (List ℕ) → Option (List ℕ) → List (List ℕ × Place)
item_path_variables (Some own) (Some variable) = (own, at_root (ranged variable)) ∷ []
item_path_variables _ _ = []

abbrev pub path_variables : List FromTree → List (List ℕ × Place)
path_variables items = flat_map (λ (item : FromTree). item_path_variables item.word item.variable) items

-- what a cell shows: the object of a place, or the word by which the range of a place is reached
pub data CellPlace : Type 0 where
  object : (place : Place) → CellPlace
  word : (place : Place) → CellPlace

-- the place of a path variable, if there is one
abbrev pub word_place : List (List ℕ × Place) → List ℕ → Option Place
word_place variables variable = lookup (bytes_eq variable) variables

abbrev pub item_cells : Scope → List (List ℕ × Place) → ItemTree → List CellPlace
item_cells scope variables (t.object path) = object (place_of scope path) ∷ []
item_cells scope variables (t.path_of variable) = map word (option_to_list (word_place variables variable))

-- what the cells of a row show, in text order; an item whose path variable no from item has shows nothing, and refuses
-- the select
abbrev pub cells_of : SelectTree → List CellPlace
cells_of query =
    flat_map (item_cells (scope_of [] query.tail.ranges) (path_variables query.tail.ranges)) query.items
