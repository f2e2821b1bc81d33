-- Arcs: the labels and children of the edges that leave a set, and the sets that they lead to, label by label.
use Rattle.std.specs.Prelude.{◌≡◌, ◌≢◌, ◌↔◌, ◌<◌, List, [], map, All, AllPairs, Contains}
use Rattle.std.specs.Ordering.{nat_cmp, ordering_then}
use Rattle.std.specs.List.{flat_map}
use Rattle.std.specs.declared.cmp.Ordering.{Ordering}
use Rattle.std.specs.declared.cmp.Ordering.TheVariants.{Less}
use Rattle.lore_base.specs.Walks.{out_of}
use Rattle.lore_base.specs.TargetSets.{ListsInOrder, LeavesTo}
use Rattle.set_steps.specs.Types.{Oid, Label, Edge}
use Rattle.set_steps.specs.SetSteps.{AreSteps}

-- arcs in the order of label and child
abbrev pub arc_cmp : Label × Oid → Label × Oid → Ordering
arc_cmp a b = ordering_then (nat_cmp a.0.0 b.0.0) (nat_cmp a.1.0 b.1.0)

abbrev pub AscendAsArcs : List (Label × Oid) → Type 0
AscendAsArcs arcs = AllPairs (λ a b. arc_cmp a b ≡ Less) arcs

-- the edges that leave the members of a set
abbrev pub leaving : List Edge → List Oid → List Edge
leaving edges set = flat_map (λ oid. out_of oid edges) set

abbrev pub arcs_of : List Edge → List (Label × Oid)
arcs_of edges = map (λ edge. (edge.label, edge.child)) edges

-- the arcs of a set, in order, each once
pub record AreArcs (edges : List Edge) (set : List Oid) (arcs : List (Label × Oid)) : Type 0 where
  pub ascend : AscendAsArcs arcs
  pub exact : (label : Label) (oid : Oid) → Contains arcs (label, oid) ↔ LeavesTo edges set label oid

-- arcs grouped by label: for each label among them, in order, the children
pub record AreGroups (arcs : List (Label × Oid)) (groups : List (Label × List Oid)) : Type 0 where
  pub ascend : AllPairs (λ a b. a.0.0 < b.0.0) groups
  pub sets : All (λ group. ListsInOrder (λ oid. Contains arcs (group.0, oid)) group.1) groups
  pub some : All (λ group. group.1 ≢ []) groups
  pub all : (label : Label) (oid : Oid) → Contains arcs (label, oid)
      → (set : List Oid) × Contains groups (label, set)

-- whatever edges and set these are read of, the steps are that set's
abbrev pub AreStepsBy : List Edge → List (Label × List Oid) → Type 0
AreStepsBy read steps = (edges : List Edge) (set : List Oid) → read ≡ leaving edges set → AreSteps edges set steps
