-- The steps of a set of objects, label by label, and what it costs to read them.
use Rattle.std.specs.Prelude.{◌≢◌, ℕ, ◌+◌, ◌<◌, List, [], length, sum_by, All, AllPairs, Contains}
use Rattle.lore_base.specs.Walks.{out_of}
use Rattle.lore_base.specs.TargetSets.{LeavesTo, IsStep}
use Rattle.set_steps.specs.Types.{Oid, Label, Edge}

-- the steps of a set, label by label, those that aren't empty
pub record AreSteps (edges : List Edge) (set : List Oid) (steps : List (Label × List Oid)) : Type 0 where
  pub ascend : AllPairs (λ a b. a.0.0 < b.0.0) steps
  pub sets : All (λ step. IsStep edges set step.0 step.1) steps
  pub some : All (λ step. step.1 ≢ []) steps
  pub all : (label : Label) (oid : Oid) → LeavesTo edges set label oid
      → (next : List Oid) × Contains steps (label, next)

-- what it costs to read the edges of all members of a set: a step for each member and one for each of its edges
abbrev pub reads_of : List Edge → List Oid → ℕ
reads_of edges set = sum_by (λ oid. 1 + length (out_of oid edges)) set
