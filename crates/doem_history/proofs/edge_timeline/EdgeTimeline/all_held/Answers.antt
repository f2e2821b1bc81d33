use Rattle.std.proofs.Common.{◌≡◌, ◌↔◌, subst, Contains, IfOk}
use Rattle.doem_history.specs.Types.{Edge}
use Rattle.doem_history.specs.Histories.{KeptRuns, facts_at}
use Rattle.doem_history.proofs.edge_timeline.EdgeTimeline.all_held.Goals as goal

pub returns : goal.returns
returns c =
    subst (λ (t : KeptRuns Edge). IfOk c.all_held.result (λ held. (edge : Edge) → Contains held edge ↔ (Contains (facts_at c.args.moment t.runs) edge × (edge.parent ≡ c.args.owner))))
    c.self.view_is c.all_held.ensures
