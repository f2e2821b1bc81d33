-- What planned nodes need to be made.
use Rattle.std.specs.Prelude.{◌≡◌, ℕ, ◌≤◌, List, [], length}
use Rattle.set_explorer.specs.Types.{Node, GuideNode, DeltaNode}
use Rattle.set_explorer.specs.PlannedNodes.{KeepsOnce}

-- nodes that are kept are there, each once; and there is memory for the nodes and for their hashes
pub record CanFill (kept : List GuideNode) (nodes : List DeltaNode) (room : List GuideNode) (size : ℕ)
    (hashes : List (ℕ × Node)) (hashes_size : ℕ) : Type 0 where
  pub keeps : KeepsOnce kept nodes
  pub few : length nodes ≤ 4_294_967_295
  pub empty : room ≡ []
  pub bare : hashes ≡ []
  pub fits : length nodes ≤ size
  pub hashes_fit : length nodes ≤ hashes_size
