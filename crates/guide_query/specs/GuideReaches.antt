-- What a guide tells of paths: its nodes are walked along labels as objects are, and a node has the objects
-- of its set.
use Rattle.std.specs.Prelude.{◌↔◌, ℕ, List, [], ◌∷◌, Contains}
use Rattle.lore_base.specs.Paths.{PathTree, Spells, Reaches}
use Rattle.dataguide.specs.Guides.{GuideGraph, HasSet, HasEdge}
use Rattle.set_walk.specs.SetPaths.{LeadsAlong}
use Rattle.guide_query.specs.Types.{Oid, Label, Edge, Node, GuideNode}

-- what paths are told of: a guide and label texts
pub record GuideOver : Type 0 where
  pub guide : GuideGraph
  pub labels : List (List ℕ)

-- the object is in the node's set
abbrev pub IsMember : List GuideNode → Node → Oid → Type 0
IsMember nodes node oid = (set : List Oid) × HasSet nodes node set × Contains set oid

-- the guide tells that the path reaches the object from the named one: a word that it spells leads from the
-- node of the named object alone to one that has the object
pub record TellsReached (told : GuideOver) (path : PathTree) (named oid : Oid) : Type 0 where
  pub entry : Node
  pub enters : HasSet told.guide.nodes entry (named ∷ [])
  pub word : List Label
  pub spelled : Spells told.labels path word
  pub last : Node
  pub leads : LeadsAlong (HasEdge told.guide.nodes) entry word last
  pub member : IsMember told.guide.nodes last oid

-- of these names the guide tells what paths reach along these edges
abbrev pub TellsOf : GuideOver → List (List ℕ × Oid) → List Edge → Type 0
TellsOf told names edges =
    (name : List ℕ) (named : Oid) → Contains names (name, named) → (path : PathTree) (oid : Oid)
    → TellsReached told path named oid ↔ Reaches told.labels edges path named oid
