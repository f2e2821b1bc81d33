-- Which rows are still to come, and which plans read no edge.
use Rattle.std.specs.Prelude.{◌≡◌, ◌≢◌, ◌↔◌, ℕ, suc, ◌+◌, ◌-◌, ◌*◌, ◌^◌, zero, ◌⊎◌, List, ◌∷◌, drop, sum_by, Option, Some, None, All, AllPairs, Contains}
use Rattle.lorel_bound.specs.Plans.{StepTree, forward, from_guide, from_value, filter, IsCandidate}
use Rattle.plan_ops.specs.Types.{Oid, Plan, PartialRow}
use Rattle.plan_laws.specs.Steps.{StepsOver, Finishes}

-- what rows come of: what a plan's steps are taken over, the plan, and partial rows, each with the number of the step
-- that is to be taken next
pub record RowsLeft (A K V P T : Type 0) : Type 0 where
  pub graph : A
  pub links : K
  pub values : V
  pub paths : P
  pub test : T
  pub labels : List (List ℕ)
  pub plan : Plan
  pub partials : List PartialRow

-- all but the partial rows stays
pub record HasTheSamePlan {A K V P T : Type 0} (old new : RowsLeft A K V P T) : Type 0 where
  pub graph : new.graph ≡ old.graph
  pub links : new.links ≡ old.links
  pub values : new.values ≡ old.values
  pub paths : new.paths ≡ old.paths
  pub test : new.test ≡ old.test
  pub labels : new.labels ≡ old.labels
  pub plan : new.plan ≡ old.plan

-- a row comes of a partial one: it finishes it by the steps that are left
abbrev pub ComesOf : StepsOver → List StepTree → PartialRow → List Oid → Type 0
ComesOf over steps partial row = Finishes over (drop partial.step steps) partial.row row

-- a row is to come: it comes of some partial row
abbrev pub IsToCome : StepsOver → List StepTree → List PartialRow → List Oid → Type 0
IsToCome over steps partials row =
    (partial : PartialRow) × Contains partials partial × ComesOf over steps partial row

-- no row comes of two partial ones
abbrev pub AreApart : StepsOver → List StepTree → List PartialRow → Type 0
AreApart over steps partials =
    AllPairs (λ a b. (row : List Oid) → ComesOf over steps a row → ComesOf over steps b row → ⊥) partials

-- the same rows are to come
abbrev pub AreSame : (List Oid → Type 0) → (List Oid → Type 0) → Type 0
AreSame Before After = (row : List Oid) → After row ↔ Before row

-- the row was to come, and the others still are
pub record Gives (Before After : List Oid → Type 0) (row : List Oid) : Type 0 where
  pub came : Before row
  pub others : (other : List Oid) → After other ↔ (Before other × (other ≢ row))

-- an answer: such a row, or none where none was to come and none is
abbrev pub AnswersNext : (List Oid → Type 0) → (List Oid → Type 0) → Option (List Oid) → Type 0
AnswersNext Before After None = (row : List Oid) → (Before row → ⊥) × (After row → ⊥)
AnswersNext Before After (Some row) = Gives Before After row

-- the guide tells what the step finds
abbrev pub IsGuided : StepTree → Type 0
IsGuided (from_guide named path slot) = Unit {0}
IsGuided _ = ⊥

-- the step walks forward, or tests the condition
abbrev pub WalksOrTests : StepTree → Type 0
WalksOrTests (forward start path slot) = Unit {0}
WalksOrTests filter = Unit {0}
WalksOrTests _ = ⊥

-- the first step looks for values, and no object has one
abbrev pub FindsNothing : StepsOver → List StepTree → Type 0
FindsNothing over (from_value label op value rest slot ∷ steps) =
    (oid : Oid) → IsCandidate over.entries label op value oid → ⊥
FindsNothing over _ = ⊥

-- these steps read no edge: the guide tells all, or nothing is found to begin with
abbrev pub AreQuiet : StepsOver → List StepTree → Type 0
AreQuiet over steps = All IsGuided steps ⊎ FindsNothing over steps

-- no edge is read for what is to come of these partial rows
abbrev pub ReadNothing : StepsOver → List StepTree → List PartialRow → Type 0
ReadNothing over steps partials = All (λ partial. AreQuiet over (drop partial.step steps)) partials

-- how much is left to do at most where so many steps are left: a step offers fewer than 2 ^ 64 rows
abbrev pub left_of : ℕ → ℕ
left_of zero = 1
left_of (suc steps) = 1 + 2 ^ 64 * left_of steps

-- how much is left to do at most, for a plan of so many steps
unfoldable pub work_left : ℕ → List PartialRow → ℕ
work_left steps partials = sum_by (λ partial. left_of (steps - partial.step)) partials
