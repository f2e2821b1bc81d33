-- What each form of update changes, over the rows of its select. A row is the object of its target and, where the update
-- has a path on its right side, the object of that; rows ascend.
use Rattle.std.specs.Prelude.{◌≡◌, ℕ, ◌+◌, List, [], ◌∷◌, ◌++◌, length, map, filter, Option, Some, None}
use Rattle.std.specs.Prelude.{Bool, true, false, ◌&&◌, ◌==◌, if◌then◌else◌}
use Rattle.std.specs.List.{list_any, flat_map}
use Rattle.std.specs.Str.{bytes_eq}
use Rattle.updates.specs.Types.{Oid, Label, Edge, Value, Complex, Changes}
use Rattle.lore_base.specs.Walks.{oid_of, edge_of}
use Rattle.lore_base.specs.Databases.{OemGraph, is_complex}
use Rattle.lorel_trees.specs.Trees.{LiteralTree, StatementTree, assign, add_new, add_link, remove}
use Rattle.oem_labels.specs.Labels.{first_uses, label_in}
use Rattle.oem_text.specs.Literals.{Body, bodies, labels_of, arcs_of, numbered, edge_at, objects_of, edges_of}

-- the objects of a row
abbrev pub Pair : Type 0
Pair = Oid × Option Oid

-- the targets of the rows
abbrev pub targets : List Pair → List Oid
targets rows = map (λ row. row.0) rows

-- no change
abbrev pub no_changes : Changes
no_changes = record { made = []; values = []; added = []; removed = []; named = []; unnamed = []; labels = [] }

-- whether the object has an atomic value
abbrev pub is_atomic : List (Oid × Value) → Oid → Bool
is_atomic objects oid =
    list_any (λ object. (object.0.0 == oid.0) && (if is_complex object.1 then false else true)) objects

-- the objects that take the value: all of them an atomic one, and atomic ones alone that of a complex object
abbrev pub takers : List (Oid × Value) → Value → List Oid → List Oid
takers objects Complex oids = filter (is_atomic objects) oids
takers objects value oids = oids

-- the objects are given the value
abbrev pub assigning : List (Oid × Value) → Value → List Oid → Changes
assigning objects value oids = record {
  made = [];
  values = map (λ oid. (oid, value)) (takers objects value oids);
  added = [];
  removed = [];
  named = [];
  unnamed = [];
  labels = [];
}

-- the edge of a row with an object on the right side
abbrev pub link_of : Label → Pair → List Edge
link_of label (parent, None) = []
link_of label (parent, Some child) = edge_of parent label child ∷ []

abbrev pub links : Label → List Pair → List Edge
links label rows = flat_map (link_of label) rows

-- an edge is added for each row
abbrev pub linking : List (List ℕ) → List ℕ → List Pair → Changes
linking table label rows =
    let new = first_uses table (label ∷ []) in
    record {
      made = [];
      values = [];
      added = links (label_in (table ++ new) label) rows;
      removed = [];
      named = [];
      unnamed = [];
      labels = new;
    }

-- the edge of each row is removed; a label that the table lacks has no edge
abbrev pub unlinking : List (List ℕ) → List ℕ → List Pair → Changes
unlinking table label rows = record {
  made = [];
  values = [];
  added = [];
  removed = if list_any (bytes_eq label) table then links (label_in table label) rows else [];
  named = [];
  unnamed = [];
  labels = [];
}

-- the objects of one copy of a literal for each of these parents, numbered from `next` on
abbrev pub copied_objects : ℕ → LiteralTree → List Oid → List (Oid × Value)
copied_objects next literal [] = []
copied_objects next literal (parent ∷ others) =
    objects_of next literal ++ copied_objects (next + length (bodies literal)) literal others

-- the edges of the copies, and before those of each copy the one from its parent to its first object
abbrev pub copied_edges : ℕ → List (List ℕ) → Label → LiteralTree → List Oid → List Edge
copied_edges next table label literal [] = []
copied_edges next table label literal (parent ∷ others) =
    edge_of parent label (oid_of next) ∷ (edges_of next table literal
    ++ copied_edges (next + length (bodies literal)) table label literal others)

-- each object gets a copy of the literal
abbrev pub copying : List (List ℕ) → ℕ → List ℕ → LiteralTree → List Oid → Changes
copying table next label literal parents =
    let new = first_uses table (label ∷ labels_of literal) in
    record {
      made = copied_objects next literal parents;
      values = [];
      added = copied_edges next (table ++ new) (label_in (table ++ new) label) literal parents;
      removed = [];
      named = [];
      unnamed = [];
      labels = new;
    }

-- what an update with some rows changes, where labels have these texts
abbrev pub changes_over : List (List ℕ) → OemGraph → StatementTree → List Pair → Changes
changes_over table graph (assign target value tail) rows = assigning graph.objects value (targets rows)
changes_over table graph (add_new target label literal tail) rows =
    copying table graph.next label literal (targets rows)
changes_over table graph (add_link target label right tail) rows = linking table label rows
changes_over table graph (remove target label right tail) rows = unlinking table label rows
changes_over table graph _ rows = no_changes

-- what an update changes: nothing where it has no row
abbrev pub changes_by : List (List ℕ) → OemGraph → StatementTree → List Pair → Changes
changes_by table graph statement [] = no_changes
changes_by table graph statement (row ∷ rows) = changes_over table graph statement (row ∷ rows)
