-- The target set of a longer word is the step of the shorter word's.
use Rattle.std.proofs.Common.{◌↔◌, List, [], ◌∷◌, ◌++◌, subst}
use Rattle.std.specs.List.{Contains}
use Rattle.lore_base.specs.Walks.{Walk, edge_of}
use Rattle.lore_base.proofs.WalkLaws.{Walk-push, Walk-split}
use Rattle.lore_base.proofs.TargetLaws.{ListsInOrder-same}
use Rattle.set_explorer.specs.Types.{Oid, Label, Edge}
use Rattle.lore_base.specs.TargetSets.{IsTargetSet, IsStep, LeavesTo}

-- a walk along a longer word is an edge from the shorter word's target set
pub walks-leave : (edges : List Edge) (start : Oid) (word : List Label) (label : Label) (set : List Oid)
    → IsTargetSet edges start word set
    → (oid : Oid) → Walk edges start (word ++ label ∷ []) oid ↔ LeavesTo edges set label oid
walks-leave edges start word label set target oid = (
  λ walked. (
      let parts = Walk-split edges start word (label ∷ []) oid walked in
      record {
        from = parts.0;
        member = (target.exact parts.0).1 parts.1;
        edge = subst (λ (child : Oid). Contains edges (edge_of parts.0 label child)) parts.2.2 parts.2.1;
      }),
  λ leaves. Walk-push edges start word leaves.from label oid ((target.exact leaves.from).0 leaves.member) leaves.edge,
)

pub step-target : (edges : List Edge) (start : Oid) (word : List Label) (label : Label) (set next : List Oid)
    → IsTargetSet edges start word set
    → IsStep edges set label next → IsTargetSet edges start (word ++ label ∷ []) next
step-target edges start word label set next target step =
    ListsInOrder-same (LeavesTo edges set label) (Walk edges start (word ++ label ∷ [])) next
    (λ oid. let both = walks-leave edges start word label set target oid in (both.1, both.0)) step

pub longer_words_step : (edges : List Edge) (start : Oid) (word : List Label) (label : Label) (set next : List Oid)
    → IsTargetSet edges start word set
    → IsTargetSet edges start (word ++ label ∷ []) next ↔ IsStep edges set label next
longer_words_step edges start word label set next target = (
  ListsInOrder-same (Walk edges start (word ++ label ∷ [])) (LeavesTo edges set label) next
      (walks-leave edges start word label set target),
  step-target edges start word label set next target,
)
