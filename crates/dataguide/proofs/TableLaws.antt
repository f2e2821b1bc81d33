-- Of the nodes of a guide one alone has a set.
use Rattle.std.proofs.Common.{◌≡◌, ℕ, List, Option, Some, None, IfSome, ap}
use Rattle.dataguide.specs.Types.{Oid, Node, GuideNode}
use Rattle.set_explorer.specs.Nodes.{sets_of, HasSet, node_number}
use Rattle.dataguide.specs.inside.NodeTables.{IsNodeTable}
use Rattle.set_steps.proofs.PlaceLaws.{one-place}

-- a node that has a set is the only one
pub one-node : (hashes : List (ℕ × Node)) (nodes : List GuideNode) (set : List Oid) (found : Option Node)
    → IsNodeTable hashes nodes → IfSome found (λ node. HasSet nodes node set)
    → IfSome found (λ node. (other : Node) → HasSet nodes other set → other ≡ node)
one-node hashes nodes set None table has = tt
one-node hashes nodes set (Some node) table has = λ other has_too.
    ap (λ (n : ℕ). node_number n) (one-place (sets_of nodes) table.apart other.0 node.0 set has_too has)
