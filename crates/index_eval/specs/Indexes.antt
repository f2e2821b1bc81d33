-- Indexes of a graph: of its edges by their children, and of its values.
use Rattle.std.specs.Prelude.{◌↔◌, List, Contains}
use Rattle.index_traits.specs.Entries.{AreValueEntries}
use Rattle.index_eval.specs.Types.{Oid, Edge, Value, ValueEntry}

-- the links are the edges, and the entries those of the objects
pub record AreIndexes (objects : List (Oid × Value)) (edges links : List Edge) (entries : List ValueEntry) : Type 0 where
  pub links_are : (edge : Edge) → Contains links edge ↔ Contains edges edge
  pub entries_are : AreValueEntries objects edges entries
