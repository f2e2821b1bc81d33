use Rattle.std.proofs.Common.{◌≡◌, ◌↔◌, subst, Contains, IfOk}
use Rattle.doem_history.specs.Histories.{KeptRuns, facts_at}
use Rattle.doem_history.proofs.timeline.Timeline.all_held.Goals as goal

pub returns : goal.returns
returns g c =
    subst (λ (t : KeptRuns _). IfOk c.all_held.result (λ held. (fact : _) → Contains held fact ↔ (Contains (facts_at c.args.moment t.runs) fact × (g.F.Fact.owner_of fact ≡ c.args.owner))))
    c.self.view_is c.all_held.ensures
