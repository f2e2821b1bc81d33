-- The nodes that stood before a graph changed, and how it did.
use Rattle.std.specs.Prelude.{◌↔◌, ℕ, List, Contains}
use Rattle.lore_base.specs.Databases.{AreAscendingEdges}
use Rattle.lore_base.specs.Deltas.{ListsOnlyIn}
use Rattle.set_explorer.specs.Types.{Oid, Edge, GuideNode}
use Rattle.set_explorer.specs.Nodes.{AreNodesOf}
use Rattle.set_explorer.specs.Touched.{DifferBy, parents_of}

-- the nodes stood before their graph changed: what is lost leaves dirty objects, and what is fresh leaves grown ones
pub record IsChange (kept : List GuideNode) (dirty grown : List Oid) (fresh after : List Edge) : Type 0 where
  pub names : List (List ℕ × Oid)
  pub before : List Edge
  pub stands : AreNodesOf names before kept
  pub stay : (edge : Edge) → Contains before edge → (¬ Contains dirty edge.parent) → Contains after edge
  pub come : ListsOnlyIn fresh after before
  pub ascend : AreAscendingEdges fresh
  pub grown_are : (oid : Oid) → Contains grown oid ↔ Contains (parents_of fresh) oid

-- of the objects that are told, it is listed which edges enter them
pub record TellsEntering (edges : List Edge) (told : List Oid) (entering : List Edge) : Type 0 where
  pub ascend : AreAscendingEdges entering
  pub exact : (edge : Edge) → Contains entering edge ↔ (Contains edges edge × Contains told edge.child)

-- the list has the objects that the edges leave
abbrev pub AreParents : List Oid → List Edge → Type 0
AreParents oids edges = (oid : Oid) → Contains oids oid ↔ Contains (parents_of edges) oid

-- the nodes stood before their graph lost these edges and gained the fresh ones, of some objects it is told what enters
-- them afterwards, and each list of edges stands with the objects that they leave
pub record IsToldChange (kept : List GuideNode) (lost fresh after : List Edge) (told : List Oid) (entering : List Edge)
    (dirty grown back : List Oid) : Type 0 where
  pub names : List (List ℕ × Oid)
  pub before : List Edge
  pub stands : AreNodesOf names before kept
  pub differ : DifferBy before after lost fresh
  pub lost_ascend : AreAscendingEdges lost
  pub fresh_ascend : AreAscendingEdges fresh
  pub tells : TellsEntering after told entering
  pub dirty_are : AreParents dirty lost
  pub grown_are : AreParents grown fresh
  pub back_are : AreParents back entering
