-- The selects of views; which views are fresh over a database; and what may concern them between two databases.
use Rattle.std.specs.Prelude.{◌≡◌, ◌≢◌, ℕ, ◌<◌, List, [], map, filter, Option, Some, is_some}
use Rattle.std.specs.Map.{keys_of, lookup}
use Rattle.std.specs.BTreeMap.{is_at}
use Rattle.std.specs.List.Sorted.{IsStrictlySortedBy}
use Rattle.lore_base.specs.Bytes.{bytes_cmp}
use Rattle.lore_base.specs.Databases.{Database}
use Rattle.lore_base.specs.Deltas.{IsDelta}
use Rattle.lorel_trees.specs.Trees.{SelectTree, select_tree}
use Rattle.lorel_ranges.specs.Texts.{IsShallow}
use Rattle.live_views.specs.Views.{KeptRows, View, NamedView, view_of}
use Rattle.live_views.specs.Concerns.{Concerns}
use Rattle.view_laws.specs.Types.{Delta}
use Rattle.view_laws.specs.Laws.{IsFresh}

-- a select under the name of its view
abbrev pub NamedQuery : Type 0
NamedQuery = List ℕ × SelectTree

-- the select of the view of this name
abbrev pub query_in : List NamedQuery → List ℕ → Option SelectTree
query_in queries name = lookup (is_at (bytes_cmp name)) queries

-- the selects of views, under their names
abbrev pub queries_of : List NamedView → List NamedQuery
queries_of views = map (λ entry. (entry.0, select_tree entry.1.select)) views

-- the names of the views that have their rows
abbrev pub fresh_of : List NamedView → List (List ℕ)
fresh_of views = map (λ entry. entry.0) (filter (λ entry. is_some entry.1.rows) views)

-- the rows of each of them are the answer of its select, which is accepted
abbrev pub AreFreshOver : Database → List NamedView → Type 0
AreFreshOver db views = (name : List ℕ) (view : View) (rows : KeptRows)
    → view_of views name ≡ Some view → view.rows ≡ Some rows → IsFresh db (select_tree view.select) rows

-- views of a database in the order of their names. Their selects stand no deeper than a statement nests, and what one
-- starts at has a number, so where there is one the database isn't new
pub record AreViewsOf (db : Database) (views : List NamedView) : Type 0 where
  pub ascend : IsStrictlySortedBy bytes_cmp (keys_of views)
  pub shallow : (name : List ℕ) (view : View) → view_of views name ≡ Some view → IsShallow (select_tree view.select)
  pub fresh : AreFreshOver db views
  pub old : views ≢ [] → 1 < db.graph.next

-- what two databases differ in concerns the select
abbrev pub ConcernsBetween : Database → Database → SelectTree → Type 0
ConcernsBetween before after query =
    (delta : Delta) × IsDelta before.graph after.graph delta × Concerns after.labels query delta
