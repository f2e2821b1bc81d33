-- Facts that stand at some moments, the maximal runs of successive moments at which they do, and what the
-- runs weigh.
use Rattle.std.specs.Prelude.{◌≡◌, ◌≢◌, ◌↔◌, ℕ, ◌+◌, ◌<◌, ◌≤◌, List, [], get_or, sum_by, AllPairs, Contains}
use Rattle.doem_history.specs.Types.{Run}

-- `times` lists for each moment, from 0 on, the facts that stand at it

-- the fact stands at the moment
abbrev pub Stands : {F : Type 0} → List (List F) → ℕ → F → Type 0
Stands times moment fact = Contains (get_or times moment []) fact

-- a maximal run: the fact stands at each moment from the first one on up to the end, not at the one before
-- these, and not at the one behind them
pub record IsRun {F : Type 0} (times : List (List F)) (run : Run F) : Type 0 where
  pub some : run.begin < run.end
  pub stands : (moment : ℕ) → run.begin ≤ moment → moment < run.end → Stands times moment run.fact
  pub first : (before : ℕ) → before + 1 ≡ run.begin → ¬ Stands times before run.fact
  pub last : ¬ Stands times run.end run.fact

-- all maximal runs, each once
pub record AreRuns {F : Type 0} (times : List (List F)) (runs : List (Run F)) : Type 0 where
  pub distinct : AllPairs (λ a b. a ≢ b) runs
  pub exact : (run : Run F) → Contains runs run ↔ IsRun times run

-- what all runs weigh, where each counts what its fact weighs
abbrev pub IsWeight : {F : Type 0} → (F → ℕ) → List (List F) → ℕ → Type 0
IsWeight {F} cost times weight =
    (runs : List (Run F)) × AreRuns times runs × (weight ≡ sum_by (λ run. cost run.fact) runs)
