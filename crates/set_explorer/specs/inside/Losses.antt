-- What kept sets lose by lost edges, and gain by fresh ones.
use Rattle.std.specs.Prelude.{◌≡◌, ◌⊎◌, ◌<◌, List, [], Option, Some, All, AllPairs, Contains}
use Rattle.std.specs.List.{AllZip}
use Rattle.lore_base.specs.TargetSets.{ListsInOrder}
use Rattle.set_explorer.specs.Types.{Oid, Label, Node, GuideNode, Origin, Kept}
use Rattle.set_explorer.specs.PlannedNodes.{origin_set, IsOrigin}
use Rattle.set_explorer.specs.inside.Gains.{labels_in, LeadsKept, LeadsBy}

-- the list has those of the objects that no step with the label has
abbrev pub ListsRest : List (Label × List Oid) → Label → List Oid → List Oid → Type 0
ListsRest back label oids rest = ListsInOrder (λ oid. Contains oids oid × (¬ LeadsBy back label oid)) rest

-- of each step, in order, those objects that no other step with its label has
abbrev pub AreRest : List (Label × List Oid) → List (Label × List Oid) → List (Label × List Oid) → Type 0
AreRest gone back rest = AllZip (λ step left. (left.0 ≡ step.0) × ListsRest back step.0 step.1 left.1) gone rest

-- an edge with the label leads to a kept node whose set has the object, and the rest with the label hasn't, or a step with
-- the label has it
abbrev pub StaysOrComes : List GuideNode → List (Label × Node) → List (Label × List Oid) → List (Label × List Oid) → Label
    → Oid → Type 0
StaysOrComes kept edges rest come label oid =
    (LeadsKept kept edges label oid × (¬ LeadsBy rest label oid)) ⊎ LeadsBy come label oid

-- the object is in the set of the node, if there is one, and not among the others
abbrev pub HasOther : List GuideNode → Option Node → List Oid → Oid → Type 0
HasOther kept found others oid =
    ((node : Node) × (found ≡ Some node) × Contains (origin_set kept (Kept node)) oid) × (¬ Contains others oid)

-- an edge with the label leads to a kept node whose set has the object, which isn't among the others, or a step with the
-- label has it
abbrev pub LeadsPast : List GuideNode → List (Label × Node) → List (Label × List Oid) → Label → List Oid → Oid → Type 0
LeadsPast kept edges come label others oid =
    (LeadsKept kept edges label oid × (¬ Contains others oid)) ⊎ LeadsBy come label oid

-- the origin is there, and its set has what stays and what comes by the label; where it is empty, the rest has no object
-- with the label
pub record IsLeft (kept : List GuideNode) (edges : List (Label × Node)) (rest come : List (Label × List Oid)) (label : Label)
    (origin : Origin) : Type 0 where
  pub there : IsOrigin kept origin
  pub set : ListsInOrder (StaysOrComes kept edges rest come label) (origin_set kept origin)
  pub some : (origin_set kept origin ≡ []) → (oid : Oid) → ¬ LeadsBy rest label oid

-- for each label of the edges and of what comes by which something stays or comes, in order, where it leads
pub record AreLeft (kept : List GuideNode) (edges : List (Label × Node)) (rest come : List (Label × List Oid))
    (targets : List (Label × Origin)) : Type 0 where
  pub ascend : AllPairs (λ a b. a.0.0 < b.0.0) targets
  pub labels : (label : Label) → Contains (labels_in targets) label
      → Contains (labels_in edges) label ⊎ Contains (labels_in come) label
  pub left : All (λ target. IsLeft kept edges rest come target.0 target.1) targets
  pub all : (label : Label) (oid : Oid) → StaysOrComes kept edges rest come label oid → Contains (labels_in targets) label
