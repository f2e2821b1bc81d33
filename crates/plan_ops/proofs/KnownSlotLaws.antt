-- Slots that are known: those that steps fill.
use Rattle.std.proofs.Common.{◌≡◌, ℕ, ◌+◌, ◌<◌, ◌⊎◌, inl, inr, List, [], ◌∷◌, ◌++◌, length, get_or, take, map, Option, Some, sym, ap, ◌∙◌, subst}
use Rattle.std.specs.List.{Contains}
use Rattle.std.proofs.lemmas.List.{take-map}
use Rattle.std.proofs.lemmas.List.Elements.{Contains-append_left, Contains-push}
use Rattle.list_laws.proofs.PartLaws.{map_more_read}
use Rattle.lorel_bound.specs.Plans.{StepTree}
use Rattle.plan_laws.specs.Steps.{slot_of}
use Rattle.plan_ops.specs.inside.Ready.{ReadyStep, ready_tree}
use Rattle.plan_ops.specs.inside.Narrowing.{IsFilledBy}

one_more : (ready : List ReadyStep) (place : ℕ) (step : ReadyStep) → place < length ready → step ≡ get_or ready place step
    → take (place + 1) (map ready_tree ready) ≡ take place (map ready_tree ready) ++ ready_tree step ∷ []
one_more ready place step within at =
    take-map ready_tree (place + 1) ready ∙ map_more_read ready_tree ready place step within at
    ∙ ap (λ (l : List StepTree). l ++ ready_tree step ∷ []) (sym (take-map ready_tree place ready))

-- a slot is known by what the steps before fill, or by what this step fills
pub known_more : (ready : List ReadyStep) (place own : ℕ) (step : ReadyStep) (slot : Option ℕ) (Known : Type 0) → place < length ready
    → step ≡ get_or ready place step → slot ≡ slot_of (ready_tree step) → (Known → IsFilledBy (take place (map ready_tree ready)) own)
    → Known ⊎ (slot ≡ Some own) → IsFilledBy (take (place + 1) (map ready_tree ready)) own
known_more ready place own step slot Known within at of_step before (inl early) =
    let got = before early in (
      got.0,
      subst (λ (l : List StepTree). Contains l got.0) (sym (one_more ready place step within at))
          (Contains-append_left (take place (map ready_tree ready)) (ready_tree step ∷ []) got.0 got.1),
      got.2,
    )
known_more ready place own step slot Known within at of_step before (inr fills) = (
  ready_tree step,
  subst (λ (l : List StepTree). Contains l (ready_tree step)) (sym (one_more ready place step within at))
      (Contains-push (take place (map ready_tree ready)) (ready_tree step)),
  sym of_step ∙ fills,
)
