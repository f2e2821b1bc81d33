use Rattle.std.proofs.Common.{sym, subst, Contains}
use Rattle.doem_history.specs.Moments.{Moment}
use Rattle.doem_history.proofs.view.HistoryViewValueOf.value_of.Goals as goal

pub returns-clause-only : goal.returns-clause-only
returns-clause-only c value at =
    c.value_at.ensures.only value (subst (λ (m : Moment). Contains m.objects (c.args.oid, value)) (sym c.self.view_is) at)
