use Rattle.std.proofs.Common.{◌∙◌, ◌+◌, ◌≤◌, sym, subst, ap}
use Rattle.doem_history.specs.Types.{HISTORY_WEIGHT}
use Rattle.doem_history.specs.Moments.{IsHistoryWeight}
use Rattle.doem_history.specs.Histories.{KeptHistory, moments_of}
use Rattle.doem_history.specs.Laws.{AreMoments}
use Rattle.doem_history.proofs.MomentLaws.{are_moments}
use Rattle.doem_history.proofs.HistoryLaws.{count_moments, history_weighs}
use Rattle.doem_history.proofs.history.History.last.Goals as goal

pub returns-clause-moments : goal.returns-clause-moments
returns-clause-moments c = count_moments c.args.self.now ∙ ap (λ (h : KeptHistory). h.last + 1) (sym c.self.view_is)

pub returns-clause-limit : goal.returns-clause-limit
returns-clause-limit c = c.self.invariant.early

pub returns-clause-weight : goal.returns-clause-weight
returns-clause-weight c =
    let h : KeptHistory = record { names = c.self.inside.names; objects = c.self.inside.objects; edges = c.self.inside.edges; last = c.self.inside.last; weight = c.self.inside.weight } in
    subst (λ (h : KeptHistory). IsHistoryWeight (moments_of h) h.weight) c.self.view_is (history_weighs h c.self.invariant)

pub returns-clause-light : goal.returns-clause-light
returns-clause-light c = subst (λ (h : KeptHistory). h.weight ≤ HISTORY_WEIGHT) c.self.view_is c.self.invariant.light

pub returns-clause-ordered : goal.returns-clause-ordered
returns-clause-ordered c =
    let h : KeptHistory = record { names = c.self.inside.names; objects = c.self.inside.objects; edges = c.self.inside.edges; last = c.self.inside.last; weight = c.self.inside.weight } in
    subst (λ (h : KeptHistory). AreMoments (moments_of h)) c.self.view_is (are_moments h c.self.invariant.early)
