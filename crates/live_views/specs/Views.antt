-- Views: selects that are kept under names, each with its rows as long as these stand.
use Rattle.std.specs.Prelude.{◌≡◌, ℕ, List, Option, None, Some, Contains}
use Rattle.std.specs.List.{AllZip}
use Rattle.std.specs.Map.{lookup}
use Rattle.std.specs.BTreeMap.{is_at}
use Rattle.lore_base.specs.Bytes.{bytes_cmp}
use Rattle.lorel_trees.specs.Trees.{select_tree}
use Rattle.live_views.specs.Types.{Cell, Delta, Select}
use Rattle.live_views.specs.Concerns.{Concerns}

abbrev pub KeptRows : Type 0
KeptRows = List (List Cell)

-- a kept select, with its rows. A view is fresh where it has some
pub record View : Type 0 where
  pub select : Select
  pub rows : Option KeptRows

-- views with their names
abbrev pub NamedView : Type 0
NamedView = List ℕ × View

-- the view of a name
abbrev pub view_of : List NamedView → List ℕ → Option View
view_of views name = lookup (is_at (bytes_cmp name)) views

-- the select of a view, if there is one, and its rows, if it is fresh
abbrev pub select_in : Option View → Option Select
select_in None = None
select_in (Some view) = Some view.select

abbrev pub rows_in : Option View → Option KeptRows
rows_in None = None
rows_in (Some view) = view.rows

-- views keep their names and selects. Those that are told of have these rows then, and each other one its
-- own
pub record Turns (Told : List ℕ → Type 0) (rows : Option KeptRows) (before after : NamedView) : Type 0 where
  pub name : after.0 ≡ before.0
  pub select : after.1.select ≡ before.1.select
  pub turned : Told before.0 → after.1.rows ≡ rows
  pub kept : (Told before.0 → ⊥) → after.1.rows ≡ before.1.rows

abbrev pub TurnsRows : (List ℕ → Type 0) → Option KeptRows → List NamedView → List NamedView → Type 0
TurnsRows Told rows before after = AllZip (Turns Told rows) before after

-- the change concerns the view of this name
abbrev pub ConcernsView : List (List ℕ) → List NamedView → Delta → List ℕ → Type 0
ConcernsView labels views delta name =
    (view : View) × Contains views (name, view) × Concerns labels (select_tree view.select) delta
