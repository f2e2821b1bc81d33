use Rattle.std.proofs.Common.{sym, ◌∙◌}
use Rattle.value_orders.proofs.HeldLaws.{here-value}
use Rattle.value_orders.proofs.held.value_at.Goals as goal

pub returns-then-eq : goal.returns-then-eq
returns-then-eq c =
    let found = c.in_ok-object.ensures.lookup in
    here-value _ c.requires _ _ _ found.3.0 found.1 (sym c.eq.ensures ∙ c.if-eq.true)
