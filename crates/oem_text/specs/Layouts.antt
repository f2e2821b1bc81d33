-- A literal laid out: the values of its objects by place, and its edges between places, each local resolved. Labels are
-- texts first, numbers once a table is known.
use Rattle.std.specs.Prelude.{ℕ, ◌+◌, ◌<◌, List, ◌++◌, length, map, All}
use Rattle.oem_text.specs.Types.{Edge, Value}
use Rattle.lore_base.specs.Walks.{oid_of, edge_of}
use Rattle.lorel_trees.specs.Trees.{LiteralTree}
use Rattle.oem_labels.specs.Labels.{first_uses, label_in}
use Rattle.oem_text.specs.Literals.{Body, Arc, bodies, arcs_of, target_place}

-- an edge between places, with its label's text
pub record PlacedArc : Type 0 where
  pub parent : ℕ
  pub label : List ℕ
  pub child : ℕ

-- the values of objects by place, and the edges between them, those of a literal in text order
pub record LaidOut : Type 0 where
  pub values : List Value
  pub arcs : List PlacedArc

-- an edge of a literal between places
abbrev pub placed_arc : List Body → Arc → PlacedArc
placed_arc places arc = record { parent = arc.parent; label = arc.label; child = target_place places arc.target }

-- the literal laid out
abbrev pub layout_of : LiteralTree → LaidOut
layout_of literal = record {
  values = map (λ body. body.value) (bodies literal);
  arcs = map (placed_arc (bodies literal)) (arcs_of literal);
}

-- the edge joins places below this one
pub record JoinsBelow (count : ℕ) (arc : PlacedArc) : Type 0 where
  pub parent : arc.parent < count
  pub child : arc.child < count

-- there is an object, and each edge joins places of objects
pub record IsJoined (layout : LaidOut) : Type 0 where
  pub some : 0 < length layout.values
  pub joined : All (JoinsBelow (length layout.values)) layout.arcs

-- the texts of the labels, edge by edge
abbrev pub texts_of : LaidOut → List (List ℕ)
texts_of layout = map (λ arc. arc.label) layout.arcs

-- the edge, where the object at place 0 has the number `next` and labels are those of this table
abbrev pub edge_from : ℕ → List (List ℕ) → PlacedArc → Edge
edge_from next table arc =
    edge_of (oid_of (next + arc.parent)) (label_in table arc.label) (oid_of (next + arc.child))

abbrev pub edges_from : ℕ → List (List ℕ) → LaidOut → List Edge
edges_from next table layout = map (edge_from next table) layout.arcs

-- the texts that a table has, and those that came since
pub record NumberedTexts : Type 0 where
  pub known : List (List ℕ)
  pub come : List (List ℕ)

-- all of them, by their labels
abbrev pub table_of : NumberedTexts → List (List ℕ)
table_of numbers = numbers.known ++ numbers.come

-- the texts once these were numbered too
abbrev pub with_texts : NumberedTexts → List (List ℕ) → NumberedTexts
with_texts numbers texts = record {
  known = numbers.known;
  come = numbers.come ++ first_uses (table_of numbers) texts;
}

-- how many texts there are then
abbrev pub count_with : NumberedTexts → List (List ℕ) → ℕ
count_with numbers texts = length (table_of numbers) + length (first_uses (table_of numbers) texts)
