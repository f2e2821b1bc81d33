-- Which runs began and which ended up to a moment: told by marks, one for each moment.
use Rattle.std.specs.Prelude.{◌≡◌, ◌≢◌, ◌↔◌, ℕ, ◌<◌, ◌≤◌, List, [], ◌∷◌, ◌++◌, length, AllPairs, Contains}
use Rattle.std.specs.Prelude.{Some, slice_get}
use Rattle.std.specs.Option.{option_to_list}
use Rattle.doem_history.specs.Types.{Run, Mark, STANDING}

-- the runs that began up to the moment stand before one place, and of the places of ended runs those that
-- ended up to it before another
pub record IsMark {F : Type 0} (runs : List (Run F)) (over : List ℕ) (moment : ℕ) (mark : Mark) : Type 0 where
  pub begun_within : mark.begun ≤ length runs
  pub ended_within : mark.ended ≤ length over
  pub begun : (place : ℕ) (run : Run F) → slice_get runs place ≡ Some run
      → (run.begin ≤ moment) ↔ (place < mark.begun)
  pub ended : (k place : ℕ) (run : Run F) → slice_get over k ≡ Some place → slice_get runs place ≡ Some run
      → (run.end ≤ moment) ↔ (k < mark.ended)

-- `over` has the place of each run that ended, once, in the order of their ends
pub record AreMarked {F : Type 0} (runs : List (Run F)) (over : List ℕ) (marks : List Mark) : Type 0 where
  pub each : (moment : ℕ) (mark : Mark) → slice_get marks moment ≡ Some mark → IsMark runs over moment mark
  pub apart : AllPairs (λ a b. a ≢ b) over
  pub ended : (place : ℕ) → Contains over place
      → (run : Run F) × (slice_get runs place ≡ Some run) × (run.end ≢ STANDING)
  pub all : (place : ℕ) (run : Run F) → slice_get runs place ≡ Some run → run.end ≢ STANDING
      → Contains over place

-- the runs at these places
abbrev pub runs_at : {F : Type 0} → List (Run F) → List ℕ → List (Run F)
runs_at runs [] = []
runs_at runs (place ∷ places) = option_to_list (slice_get runs place) ++ runs_at runs places

-- a run of the fact holds the one moment and ends up to the other
pub record IsLeaving {F : Type 0} (runs : List (Run F)) (before after : ℕ) (fact : F) : Type 0 where
  pub run : Run F
  pub among : Contains runs run
  pub of : run.fact ≡ fact
  pub since : run.begin ≤ before
  pub until : before < run.end
  pub over : run.end ≤ after

-- a run of the fact begins behind the one moment and holds the other
pub record IsComing {F : Type 0} (runs : List (Run F)) (before after : ℕ) (fact : F) : Type 0 where
  pub run : Run F
  pub among : Contains runs run
  pub of : run.fact ≡ fact
  pub late : before < run.begin
  pub since : run.begin ≤ after
  pub until : after < run.end
