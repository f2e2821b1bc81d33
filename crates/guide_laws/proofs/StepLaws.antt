-- The step of each set by each label is one of finitely many lists, and the target set of each word is one, too.
use Rattle.std.proofs.Common.{List, [], ◌∷◌, ◌++◌, sym, subst, append_assoc}
use Rattle.std.specs.List.{Contains}
use Rattle.std.proofs.lemmas.List.{append-nil}
use Rattle.lore_base.proofs.ToldLaws.{passes_told}
use Rattle.dataguide.specs.Types.{Oid, Label, Edge}
use Rattle.lore_base.specs.TargetSets.{IsTargetSet}
use Rattle.dataguide.proofs.TargetSteps.{step-target}
use Rattle.dataguide.proofs.StopLaws.{target-none}
use Rattle.dataguide.proofs.StepLaws.{children_of, told_leaves, step_of, step_is}
use Rattle.guide_laws.proofs.ListLaws.{sublists, filter-sublist}

pub step-sublist : (edges : List Edge) (set : List Oid) (label : Label)
    → Contains (sublists (children_of edges)) (step_of edges set label)
step-sublist edges set label =
    filter-sublist (λ oid. passes_told (told_leaves edges set label oid)) (children_of edges)

-- a target set, and what more labels lead to from it
target_on : (edges : List Edge) (start : Oid) (rest done : List Label) (set : List Oid)
    → IsTargetSet edges start done set → (whole : List Oid) × IsTargetSet edges start (done ++ rest) whole
target_on edges start [] done set is =
    (set, subst (λ (w : List Label). IsTargetSet edges start w set) (sym (append-nil done)) is)
target_on edges start (label ∷ rest) done set is =
    let later = target_on edges start rest (done ++ label ∷ []) (step_of edges set label)
    (step-target edges start done label set (step_of edges set label) is (step_is edges set label)) in (
      later.0,
      subst (λ (w : List Label). IsTargetSet edges start w later.0) (append_assoc done (label ∷ []) rest) later.1,
    )

pub target_is : (edges : List Edge) (start : Oid) (word : List Label)
    → (set : List Oid) × IsTargetSet edges start word set
target_is edges start word = target_on edges start word [] (start ∷ []) (target-none edges start)
