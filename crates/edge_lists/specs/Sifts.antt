-- Edges that are there, and those that aren't.
use Rattle.std.specs.Prelude.{◌↔◌, ℕ, Option, Some, None, List, [], ◌∷◌, Contains}
use Rattle.slab.specs.Slab.{Slab}
use Rattle.edge_lists.specs.Types.{Edge, Out, EdgeRecord}
use Rattle.edge_lists.specs.Edges.{Ascend}
use Rattle.edge_lists.specs.Records.{HasEdge}

-- of these edges those that are there, and those that aren't, both ascending
pub record AreSifted (records : Slab EdgeRecord) (edges there absent : List Edge) : Type 0 where
  pub there_ascends : Ascend Out there
  pub found : (edge : Edge) → Contains there edge ↔ (Contains edges edge × HasEdge records edge)
  pub absent_ascends : Ascend Out absent
  pub missed : (edge : Edge) → Contains absent edge ↔ (Contains edges edge × (¬ HasEdge records edge))

-- the edge, where there is a key of its record
abbrev pub if_there : Option ℕ → Edge → List Edge
if_there (Some key) edge = edge ∷ []
if_there None edge = []

-- the edge, where there is none
abbrev pub if_absent : Option ℕ → Edge → List Edge
if_absent (Some key) edge = []
if_absent None edge = edge ∷ []
