-- Blocks filled with members and edges that were gathered for them.
use Rattle.std.specs.Prelude.{◌≡◌, ◌↔◌, ℕ, List, [], Some, length, slice_get, slice_index_or, AllPairs, Contains}
use Rattle.std.specs.declared.cmp.Ordering.TheVariants.{Less}
use Rattle.lore_base.specs.TargetSets.{ListsInOrder}
use Rattle.one_index.specs.Types.{Oid, Label, Block}
use Rattle.one_index.specs.Blocks.{block_edge_cmp}

-- the edges in order, each once
pub record IsRowInOrder (edges row : List (Label × ℕ)) : Type 0 where
  pub ascend : AllPairs (λ a b. block_edge_cmp a b ≡ Less) row
  pub exact : (edge : Label × ℕ) → Contains row edge ↔ Contains edges edge

pub record IsFilled (oids : List Oid) (edges : List (Label × ℕ)) (block : Block) : Type 0 where
  pub members : ListsInOrder (Contains oids) block.members
  pub edges_in_order : IsRowInOrder edges block.edges

-- the blocks below a count are filled, each with what was gathered for it
pub record AreFilled (count : ℕ) (members : List (List Oid)) (edges : List (List (Label × ℕ)))
    (blocks : List Block) : Type 0 where
  pub every : length blocks ≡ count
  pub each : (number : ℕ) (block : Block) → slice_get blocks number ≡ Some block
      → IsFilled (slice_index_or members number []) (slice_index_or edges number []) block
