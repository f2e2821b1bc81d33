-- Stepping through a word: the states that are left are those that the word leads to.
use Rattle.std.proofs.Common.{◌↔◌, ℕ, List, [], ◌∷◌, refl, sym, subst}
use Rattle.path_expr.specs.Types.{Label, States}
use Rattle.path_expr.specs.Machines.{Machine, IsIn, MovesThrough, StepsThrough, IsAcceptedByStepping}

steps_run : (labels : List (List ℕ)) (machine : Machine) (word : List Label) (states last : States) → StepsThrough labels machine states word last
    → IsIn last 64 ↔ ((state : ℕ) × IsIn states state × MovesThrough labels machine state word 64)
steps_run labels machine [] states last same = (
  λ h. (64, subst (λ (s : States). IsIn s 64) (sym same) h, refl),
  λ h. subst (λ (s : States). IsIn s 64) same (subst (λ (k : ℕ). IsIn states k) h.2 h.1),
)
steps_run labels machine (label ∷ word) states last steps =
    let later = steps_run labels machine word steps.0 last steps.2 in (
      λ h. let run = later.0 h in let before = (steps.1 run.0).0 run.1 in (before.0, before.1, (run.0, before.2, run.2)),
      λ h. later.1 (h.2.0, (steps.1 h.2.0).1 (h.0, h.1, h.2.1), h.2.2),
    )

pub accepted_by_stepping : IsAcceptedByStepping
accepted_by_stepping labels machine word last steps = steps_run labels machine word machine.start last steps
