-- The lines that show the blocks of a graph.
use Rattle.std.specs.Prelude.{◌≡◌, ℕ, List, [], ◌∷◌, ◌++◌, length, map, slice_get, unwrap_or, codes, decimal}
use Rattle.lore_base.specs.Walks.{oid_of}
use Rattle.lore_base.specs.declared.edges.Oid.{Oid}
use Rattle.one_index.specs.declared.blocks.Block.{Block}
use Rattle.one_index.specs.Blocks.{NamedGraph, AreBlocksOf}

-- the first of some objects: as they ascend, the least one
abbrev pub first_in : List Oid → Oid
first_in oids = unwrap_or (slice_get oids 0) (oid_of 0)

-- a block: its least object and how many objects it has
abbrev pub block_line : Block → List ℕ
block_line block =
    codes "block &" ++ decimal (first_in block.members).0 ++ codes " " ++ decimal (length block.members)

abbrev pub block_count_line : ℕ → List ℕ
block_count_line count = codes "blocks " ++ decimal count

-- a line for each block of the graph, in the order of their numbers, and then their number
pub record AreBlockLines (graph : NamedGraph) (lines : List (List ℕ)) : Type 0 where
  pub blocks : List Block
  pub of_graph : AreBlocksOf graph blocks
  pub are : lines ≡ map block_line blocks ++ block_count_line (length blocks) ∷ []
