-- What blocks tell of paths: they are walked along labels as objects are, and a block has its members.
use Rattle.std.specs.Prelude.{◌↔◌, ℕ, List, Contains}
use Rattle.lore_base.specs.Paths.{PathTree, Spells, Reaches}
use Rattle.set_walk.specs.SetPaths.{LeadsAlong}
use Rattle.one_index.specs.Types.{Oid, Label, Edge, Block}
use Rattle.one_index.specs.Blocks.{IsMember, HasEdge}

-- what paths are told of: blocks and label texts
pub record BlocksOver : Type 0 where
  pub blocks : List Block
  pub labels : List (List ℕ)

-- the blocks tell that the path reaches the object from another: a word that it spells leads from the block
-- of the one to that of the other
pub record TellsReached (told : BlocksOver) (path : PathTree) (named oid : Oid) : Type 0 where
  pub entry : ℕ
  pub enters : IsMember told.blocks entry named
  pub word : List Label
  pub spelled : Spells told.labels path word
  pub last : ℕ
  pub leads : LeadsAlong (HasEdge told.blocks) entry word last
  pub member : IsMember told.blocks last oid

-- of these names the blocks tell what paths reach along these edges
abbrev pub TellsOf : BlocksOver → List (List ℕ × Oid) → List Edge → Type 0
TellsOf told names edges =
    (name : List ℕ) (named : Oid) → Contains names (name, named) → (path : PathTree) (oid : Oid)
    → TellsReached told path named oid ↔ Reaches told.labels edges path named oid
