use Rattle.std.proofs.Common.{ℕ, sym, subst, All}
use Rattle.doem_history.specs.Histories.{KeptRuns}
use Rattle.doem_history.specs.Plans.{IsOpen}
use Rattle.doem_history.proofs.timeline.Timeline.plan.Goals as goal

pub ending-requires-clause-going : goal.ending-requires-clause-going
ending-requires-clause-going g c =
    subst (λ (t : KeptRuns _). All (λ fact. (place : ℕ) × IsOpen t.runs place fact) c.args.gone.now) (sym c.self.view_is) c.requires.going
