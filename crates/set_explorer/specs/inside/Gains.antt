-- What kept sets gain by fresh edges.
use Rattle.std.specs.Prelude.{◌≡◌, ◌⊎◌, ◌↔◌, ◌<◌, List, length, map, Option, Some, All, AllPairs, Contains}
use Rattle.oem_set.specs.Sets.{IsSet}
use Rattle.lore_base.specs.TargetSets.{ListsInOrder}
use Rattle.set_explorer.specs.Types.{Oid, Label, Node, GuideNode, Origin, Kept}
use Rattle.set_explorer.specs.PlannedNodes.{origin_set, IsOrigin}

-- the labels of a row, whatever they lead to
abbrev pub labels_in : {T : Type 0} → List (Label × T) → List Label
labels_in row = map (λ entry. entry.0) row

-- an edge with the label leads to a kept node whose set has the object
abbrev pub LeadsKept : List GuideNode → List (Label × Node) → Label → Oid → Type 0
LeadsKept kept edges label oid =
    (node : Node) × Contains edges (label, node) × Contains (origin_set kept (Kept node)) oid

-- a step with the label has the object
abbrev pub LeadsBy : List (Label × List Oid) → Label → Oid → Type 0
LeadsBy row label oid = (set : List Oid) × Contains row (label, set) × Contains set oid

-- the object is in the set of the node, if there is one, or in the step
abbrev pub HasEither : List GuideNode → Option Node → List Oid → Oid → Type 0
HasEither kept found step oid =
    ((node : Node) × (found ≡ Some node) × Contains (origin_set kept (Kept node)) oid) ⊎ Contains step oid

-- the edge leads to a kept node, whose set is in order
abbrev pub IsThere : List GuideNode → Label × Node → Type 0
IsThere kept edge = (edge.1.0 < length kept) × IsSet (origin_set kept (Kept edge.1))

-- the set has what edges with the label lead to, and what steps with it have
abbrev pub IsUnion : List GuideNode → List (Label × Node) → List (Label × List Oid) → Label → List Oid → Type 0
IsUnion kept edges row label set =
    ListsInOrder (λ oid. LeadsKept kept edges label oid ⊎ LeadsBy row label oid) set

-- for each label of the edges and of the steps, in order, the union
pub record AreUnions (kept : List GuideNode) (edges : List (Label × Node)) (row : List (Label × List Oid))
    (targets : List (Label × Origin)) : Type 0 where
  pub ascend : AllPairs (λ a b. a.0.0 < b.0.0) targets
  pub sets : All (λ target. IsUnion kept edges row target.0 (origin_set kept target.1)) targets
  pub there : All (λ target. IsOrigin kept target.1) targets
  pub labels : (label : Label) → Contains (labels_in targets) label
      ↔ (Contains (labels_in edges) label ⊎ Contains (labels_in row) label)
