use Rattle.std.proofs.Common.{sym, ◌∙◌}
use Rattle.graph_changes.proofs.DeadLaws.{among_at}
use Rattle.graph_changes.proofs.dead_oids.stands_at.Goals as goal

pub returns-in-Some : goal.returns-in-Some
returns-in-Some c told =
    let found = c.in-Some.ensures.lookup in
    among_at _ _ _ _ found.3.0 found.1 (sym c.eq.ensures ∙ told)
