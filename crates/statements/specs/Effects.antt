-- What a statement changes.
use Rattle.std.specs.Prelude.{◌≡◌, ℕ, pos, List, [], ◌∷◌, ◌++◌, map, codes, Some, None, MatchOption}
use Rattle.statements.specs.Types.{Oid, Edge, Value, Changes, Cell}
use Rattle.statements.specs.Types.cells
use Rattle.lore_base.specs.Walks.{oid_of}
use Rattle.lore_base.specs.Databases.{Database}
use Rattle.lorel_trees.specs.Trees.{LiteralTree, StatementTree, load, bind, unname, generate}
use Rattle.lorel_bind.specs.Answers.{IsAnswer}
use Rattle.oem_labels.specs.Labels.{first_uses}
use Rattle.oem_text.specs.Literals.{bodies, labels_of, edges_of, numbered}
use Rattle.oem_text.specs.Layouts.{edges_from}
use Rattle.oem_text.specs.Generated.{generated_values, generated_labels, generated_layout}
use Rattle.updates.specs.Effects.{Pair, no_changes, changes_by}
use Rattle.statements.specs.Forms.{reads}

-- the objects of a row: that of its first cell, and that of its second one, if it has one
abbrev pub pair_of : List Oid → Pair
pair_of [] = (oid_of 0, None)
pair_of (first ∷ []) = (first, None)
pair_of (first ∷ second ∷ others) = (first, Some second)

-- the cells of a row of objects
abbrev pub object_cells : List Oid → List Cell
object_cells row = map cells.Object row

-- the rows that a statement is executed over, which show objects alone: none where it reads nothing
abbrev pub AreRowsOf : Database → StatementTree → List (List Oid) → Type 0
AreRowsOf db statement rows =
    MatchOption (reads statement) (rows ≡ []) (λ query. IsAnswer db query (map object_cells rows))

-- objects with these values and edges between them by labels with these texts are made, and the first object named
abbrev pub making : Database → List ℕ → List Value → List (List ℕ) → (List (List ℕ) → List Edge) → Changes
making db name values texts edges_by =
    let new = first_uses db.labels texts in
    record {
      made = numbered db.graph.next values;
      values = [];
      added = edges_by (db.labels ++ new);
      removed = [];
      named = (name, oid_of db.graph.next) ∷ [];
      unnamed = [];
      labels = new;
    }

-- a literal is made
abbrev pub loading : Database → List ℕ → LiteralTree → Changes
loading db name literal =
    making db name (map (λ body. body.value) (bodies literal)) (labels_of literal)
    (λ table. edges_of db.graph.next table literal)

-- and so are the generated objects
abbrev pub generating : Database → (seed count : ℕ) → Changes
generating db seed count =
    making db (codes "People") (generated_values seed count) generated_labels
    (λ table. edges_from db.graph.next table (generated_layout seed count))

-- the name is bound to the object of the first row
abbrev pub naming : List ℕ → List Pair → Changes
naming name [] = no_changes
naming name (row ∷ rows) = record {
  made = [];
  values = [];
  added = [];
  removed = [];
  named = (name, row.0) ∷ [];
  unnamed = [];
  labels = [];
}

-- the name is taken away
abbrev pub unnaming : List ℕ → Changes
unnaming name = record {
  made = [];
  values = [];
  added = [];
  removed = [];
  named = [];
  unnamed = name ∷ [];
  labels = [];
}

-- what a statement changes, over its rows
abbrev pub effects : Database → StatementTree → List (List Oid) → Changes
effects db (load name literal) rows = loading db name literal
effects db (bind name path) rows = naming name (map pair_of rows)
effects db (unname name) rows = unnaming name
effects db (generate (pos seed) (pos count)) rows = generating db seed count
effects db statement rows = changes_by db.labels db.graph statement (map pair_of rows)
