use Rattle.std.proofs.Common.{◌≡◌, Some, sym, ◌∙◌}
use Rattle.value_changes.proofs.valued.atomic_value.Goals as goal

pub returns-in-Complex-clause-only : goal.returns-in-Complex-clause-only
returns-in-Complex-clause-only g c value at atomic =
    let only : Some c.in_ok-value.value.now ≡ Some value = c.in_ok-value.ensures.only value at in
    let same : c.in_ok-value.value.now ≡ value = cc in
    absurd (atomic (sym same ∙ c.in-Complex.is))

pub returns-in_default : goal.returns-in_default
returns-in_default g c = record {
  found = c.in_ok-value.ensures.found;
  atomic = c.in_default.not-Complex;
  only = λ value at atomic. c.in_ok-value.ensures.only value at;
}
