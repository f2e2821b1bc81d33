-- Laws of blocks.
use Rattle.std.specs.Prelude.{◌≡◌, ◌↔◌, ℕ, List, Contains}
use Rattle.lore_base.specs.Walks.{Walk}
use Rattle.lore_base.specs.Paths.{PathTree}
use Rattle.set_walk.specs.SetPaths.{LeadsAlong}
use Rattle.one_index.specs.Types.{Oid, Label, Block}
use Rattle.one_index.specs.Blocks.{NamedGraph, IsSound, AreBlocksOf, IsMember, HasEdge}
use Rattle.one_index.specs.BlockReaches.{BlocksOver, TellsReached}

-- a graph has one list of blocks
abbrev pub OneListOfBlocks : Type 0
OneListOfBlocks = (graph : NamedGraph) (one other : List Block)
    → AreBlocksOf graph one → AreBlocksOf graph other → one ≡ other

-- and a sound one has such a list
abbrev pub BlocksExist : Type 0
BlocksExist = (graph : NamedGraph) → IsSound graph → (blocks : List Block) × AreBlocksOf graph blocks

-- a word leads from a named object exactly to the objects of the blocks that it leads to from that object's
-- block
abbrev pub BlocksTellWalks : Type 0
BlocksTellWalks = (graph : NamedGraph) (blocks : List Block) → IsSound graph → AreBlocksOf graph blocks
    → (name : List ℕ) (named : Oid) (entry : ℕ) → Contains graph.names (name, named)
    → IsMember blocks entry named
    → (word : List Label) (oid : Oid)
    → ((last : ℕ) × LeadsAlong (HasEdge blocks) entry word last × IsMember blocks last oid)
    ↔ Walk graph.edges named word oid

-- what a path reaches is a union of blocks: with one object of a block all others
abbrev pub AnswersAreUnions : Type 0
AnswersAreUnions = (graph : NamedGraph) (told : BlocksOver) → AreBlocksOf graph told.blocks
    → (number : ℕ) (x y : Oid) → IsMember told.blocks number x → IsMember told.blocks number y
    → (path : PathTree) (named : Oid) → TellsReached told path named x → TellsReached told path named y
