-- A planned node gets one edge more.
use Rattle.std.proofs.Common.{◌≡◌, ℕ, ◌<◌, List, Some, All}
use Rattle.std.specs.List.{slice_get}
use Rattle.std.specs.Prelude.{slice_set}
use Rattle.std.proofs.lemmas.List.Elements.{All-contains, All-set}
use Rattle.list_laws.proofs.PlaceLaws.{Contains-from_place}
use Rattle.set_steps.proofs.PairLaws.{AllPairs-push}
use Rattle.dataguide.specs.Types.{Label, Node, DeltaNode}
use Rattle.set_explorer.specs.Nodes.{node_number, AscendByLabel}
use Rattle.dataguide.specs.Deltas.{HasLabelsBelow, with_edge}

-- an edge whose label is above those of a planned node is put behind them
pub edge-ascends : (nodes : List DeltaNode) (place : ℕ) (node : DeltaNode) (label : Label) (to : ℕ)
    → slice_get nodes place ≡ Some node → HasLabelsBelow node label
    → All (λ planned. AscendByLabel planned.edges) nodes
    → All (λ planned. AscendByLabel planned.edges) (slice_set nodes place (with_edge node label to))
edge-ascends nodes place node label to at below ascend =
    All-set (λ (p : DeltaNode). AscendByLabel p.edges) nodes place (with_edge node label to)
    (AllPairs-push (λ (a b : Label × Node). a.0.0 < b.0.0) node.edges (label, node_number to)
    (All-contains (λ (p : DeltaNode). AscendByLabel p.edges) nodes node ascend (Contains-from_place nodes place node at))
    (λ edge there. All-contains (λ (e : Label × Node). e.0.0 < label.0) node.edges edge below there)) ascend
