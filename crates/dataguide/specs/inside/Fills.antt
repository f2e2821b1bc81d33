-- How the nodes of a planned guide are made.
use Rattle.std.specs.Prelude.{◌≡◌, ℕ, ◌≤◌, List, [], length, All}
use Rattle.dataguide.specs.Types.{Node, GuideNode, DeltaNode}
use Rattle.set_explorer.specs.Nodes.{AscendByLabel}

-- there is memory for the nodes and for their hashes, whose edges ascend
pub record IsPlanned (nodes : List DeltaNode) (room : List GuideNode) (size : ℕ) (hashes : List (ℕ × Node))
    (hashes_size : ℕ) : Type 0 where
  pub ascend : All (λ node. AscendByLabel node.edges) nodes
  pub few : length nodes ≤ 4_294_967_295
  pub empty : room ≡ []
  pub bare : hashes ≡ []
  pub fits : length nodes ≤ size
  pub hashes_fit : length nodes ≤ hashes_size
