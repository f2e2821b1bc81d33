-- Copies of a literal that are stamped from its edges between places.
use Rattle.std.specs.Prelude.{◌≡◌, ◌↔◌, ℕ, ◌+◌, List, [], ◌∷◌, ◌++◌, length, map, Contains}
use Rattle.updates.specs.Types.{Oid, Label, Edge, Value}
use Rattle.lore_base.specs.Walks.{oid_of, edge_of}
use Rattle.lore_base.specs.Databases.{AreAscendingEdges}
use Rattle.oem_labels.specs.Labels.{first_uses, label_in}
use Rattle.oem_text.specs.Literals.{numbered}
use Rattle.oem_text.specs.Layouts.{LaidOut, texts_of, edges_from}
use Rattle.updates.specs.declared.stamps.Stamp.{Stamp}

-- an edge between places, where the object at place 0 has this number
abbrev pub moved : ℕ → Edge → Edge
moved base edge = edge_of (oid_of (base + edge.parent.0)) edge.label (oid_of (base + edge.child.0))

-- the objects of the copies, one for each parent
abbrev pub stamped_objects : ℕ → List Value → List Oid → List (Oid × Value)
stamped_objects next values [] = []
stamped_objects next values (parent ∷ others) =
    numbered next values ++ stamped_objects (next + length values) values others

-- their edges, each copy of so many objects, and before those of each the one from its parent
abbrev pub stamped_edges : ℕ → ℕ → Label → List Edge → List Oid → List Edge
stamped_edges next size label edges [] = []
stamped_edges next size label edges (parent ∷ others) =
    edge_of parent label (oid_of next)
    ∷ (map (moved next) edges ++ stamped_edges (next + size) size label edges others)

-- what each copy brings beside its objects: the label of the edge to its first object and its edges between places,
-- each once; and the texts that come with all of them
pub record IsStamp (table : List (List ℕ)) (text : List ℕ) (layout : LaidOut) (stamp : Stamp) : Type 0 where
  pub texts : stamp.texts ≡ first_uses table (text ∷ texts_of layout)
  pub label : stamp.label ≡ label_in (table ++ stamp.texts) text
  pub ascend : AreAscendingEdges stamp.edges
  pub edges : (edge : Edge) → Contains stamp.edges edge ↔ Contains (edges_from 0 (table ++ stamp.texts) layout) edge
