-- Runs as they are kept: those that go on have an end that no moment reaches.
pub use Rattle.doem_facts.specs.Facts.{Ascends}
use Rattle.std.specs.Prelude.{◌≡◌, ◌⊎◌, ℕ, ◌+◌, ◌<◌, ◌≤◌, min, List, [], ◌∷◌, ◌++◌, map, sum_by, AllPairs}
use Rattle.std.specs.Prelude.{Contains, zero, suc}
use Rattle.std.specs.List.{range_with_len}
use Rattle.std.specs.declared.cmp.Ordering.{Ordering}
use Rattle.std.specs.declared.cmp.Ordering.TheVariants.{Equal}
use Rattle.lore_base.specs.Walks.{edge_cmp}
use Rattle.doem_history.specs.Types.{Run, STANDING, MOMENTS, HISTORY_WEIGHT}
use Rattle.doem_history.specs.Facts.{name_order, object_order, object_weight}
use Rattle.doem_history.specs.Histories.{facts_at, ordered, KeptRuns, KeptHistory}

-- the facts of so many moments, from 0 on, each in ascending order
abbrev pub times_of : {F : Type 0} → (F → F → Ordering) → ℕ → List (Run F) → List (List F)
times_of cmp moments runs = map (λ moment. ordered cmp (facts_at moment runs)) (range_with_len 0 moments)

-- a run of one of these moments
pub record IsWithin {F : Type 0} (moments : ℕ) (run : Run F) : Type 0 where
  pub some : run.begin < run.end
  pub begun : run.begin < moments
  pub over : (run.end < moments) ⊎ (run.end ≡ STANDING)

-- two runs of one fact have a moment between them
abbrev pub Apart : {F : Type 0} → Run F → Run F → Type 0
Apart a b = a.fact ≡ b.fact → a.end < b.begin

-- runs as so many moments leave them, in the order of their beginnings
pub record AreKept {F : Type 0} (moments : ℕ) (runs : List (Run F)) : Type 0 where
  pub few : moments < STANDING
  pub each : (run : Run F) → Contains runs run → IsWithin moments run
  pub apart : AllPairs Apart runs

-- the run, ended where the moments end
abbrev pub within : {F : Type 0} → ℕ → Run F → Run F
within moments run = record run { end = min run.end moments }

-- the run at a place ends
abbrev pub end_at : {F : Type 0} → ℕ → ℕ → List (Run F) → List (Run F)
end_at moment place [] = []
end_at moment zero (run ∷ runs) = record run { end = moment } ∷ runs
end_at moment (suc place) (run ∷ runs) = run ∷ end_at moment place runs

-- the runs at these places end
abbrev pub ended : {F : Type 0} → ℕ → List ℕ → List (Run F) → List (Run F)
ended moment [] runs = runs
ended moment (place ∷ places) runs = ended moment places (end_at moment place runs)

-- a run begins for each of these facts
abbrev pub begun : {F : Type 0} → ℕ → List F → List (Run F)
begun moment facts = map (λ fact. record { fact = fact; begin = moment; end = STANDING }) facts

-- the runs once some are ended and others begun
abbrev pub moved_on : {F : Type 0} → ℕ → List ℕ → List F → List (Run F) → List (Run F)
moved_on moment places come runs = ended moment places runs ++ begun moment come

-- runs as so many moments leave them, where no moment has two facts of one place in the order
pub record AreFacts {F : Type 0} (cmp : F → F → Ordering) (moments : ℕ) (runs : List (Run F)) : Type 0 where
  pub kept : AreKept moments runs
  pub once : (moment : ℕ) → moment < moments → (a b : F) → Contains (facts_at moment runs) a
      → Contains (facts_at moment runs) b → cmp a b ≡ Equal → a ≡ b

abbrev pub weight_of_runs : {F : Type 0} → (F → ℕ) → List (Run F) → ℕ
weight_of_runs cost runs = sum_by (λ run. cost run.fact) runs

-- the runs of one kind of fact in a history
pub record IsKept {F : Type 0} (cmp : F → F → Ordering) (moments : ℕ) (kept : KeptRuns F) : Type 0 where
  pub facts : AreFacts cmp moments kept.runs
  pub count : kept.moments ≡ moments

pub record IsHistory (history : KeptHistory) : Type 0 where
  pub names : IsKept name_order (history.last + 1) history.names
  pub objects : IsKept object_order (history.last + 1) history.objects
  pub edges : IsKept edge_cmp (history.last + 1) history.edges
  pub weight : history.weight ≡ weight_of_runs (λ _. 64) history.names.runs
      + weight_of_runs object_weight history.objects.runs + weight_of_runs (λ _. 64) history.edges.runs
  pub light : history.weight ≤ HISTORY_WEIGHT
  pub early : history.last ≤ MOMENTS
