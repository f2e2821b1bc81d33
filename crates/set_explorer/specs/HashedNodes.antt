-- Nodes with the hashes of their sets.
use Rattle.std.specs.Prelude.{◌≡◌, ℕ, List, Some, slice_get, Contains}
use Rattle.std.specs.List.Sorted.{IsNonDecreasingBy}
use Rattle.oem_set.specs.Sets.{hash_of}
use Rattle.set_explorer.specs.Types.{Node, GuideNode}
use Rattle.set_explorer.specs.Nodes.{node_number}

-- each node stands with the hash of its set
abbrev pub HaveHashes : List (ℕ × Node) → List GuideNode → Type 0
HaveHashes hashes nodes =
    (place : ℕ) (node : GuideNode) → slice_get nodes place ≡ Some node
    → Contains hashes (hash_of node.set, node_number place)

-- the hashes of the nodes' sets with the nodes, in the order of the hashes
pub record IsHashed (hashes : List (ℕ × Node)) (nodes : List GuideNode) : Type 0 where
  pub sorted : IsNonDecreasingBy (λ entry. entry.0) hashes
  pub listed : HaveHashes hashes nodes
