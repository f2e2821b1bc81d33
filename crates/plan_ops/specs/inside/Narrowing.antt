-- When objects may be left out of those for a slot: which slots are known, and what is told of rows.
use Rattle.std.specs.Prelude.{◌≡◌, ℕ, List, Some, Contains, drop}
use Rattle.lorel_bound.specs.Plans.{StepTree}
use Rattle.plan_ops.specs.Types.{Oid}
use Rattle.plan_laws.specs.Steps.{StepsOver, Finishes, slot_of}

-- some step of these fills the slot
abbrev pub IsFilledBy : List StepTree → ℕ → Type 0
IsFilledBy steps slot = (step : StepTree) × Contains steps step × (slot_of step ≡ Some slot)

-- what is told early holds of each row that finishes this one by the steps from this place on and passes
abbrev pub AreHintedAt : StepsOver → (List Oid → Type 0) → List StepTree → ℕ → List Oid → Type 0
AreHintedAt over Hints steps at row =
    (whole : List Oid) → Finishes over (drop at steps) row whole → over.passes whole → Hints whole
