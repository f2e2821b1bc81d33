-- The nodes of a guide and how they are found by the hashes of their sets.
use Rattle.std.specs.Prelude.{◌≢◌, ℕ, ◌≤◌, List, length, All, AllPairs}
use Rattle.dataguide.specs.Types.{Node, GuideNode}
use Rattle.set_explorer.specs.Nodes.{AscendByLabel, sets_of}
use Rattle.set_explorer.specs.HashedNodes.{IsHashed}

-- nodes that are found by their hashes, no two with one set, and whose edges ascend
pub record IsNodeTable (hashes : List (ℕ × Node)) (nodes : List GuideNode) : Type 0 where
  pub hashed : IsHashed hashes nodes
  pub apart : AllPairs (λ a b. a ≢ b) (sets_of nodes)
  pub ascend : All (λ node. AscendByLabel node.edges) nodes
  pub few : length nodes ≤ 4_294_967_295
