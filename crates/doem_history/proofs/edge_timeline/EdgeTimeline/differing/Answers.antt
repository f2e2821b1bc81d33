use Rattle.std.proofs.Common.{sym, subst, IfOk}
use Rattle.lore_base.specs.Walks.{edge_cmp}
use Rattle.lore_base.specs.Deltas.{ListsOnlyIn}
use Rattle.doem_history.specs.Types.{Edge}
use Rattle.doem_history.specs.Histories.{KeptRuns, facts_at}
use Rattle.doem_history.specs.inside.Kept.{AreFacts}
use Rattle.doem_history.proofs.edge_timeline.EdgeTimeline.differing.Goals as goal

pub differing-requires-clause-facts : goal.differing-requires-clause-facts
differing-requires-clause-facts c = subst (λ (t : KeptRuns Edge). AreFacts edge_cmp t.moments t.runs) (sym c.self.view_is) c.requires.facts

pub returns-clause-gone : goal.returns-clause-gone
returns-clause-gone c =
    subst (λ (t : KeptRuns Edge). IfOk c.differing.result (λ both. ListsOnlyIn both.gone (facts_at c.args.before t.runs) (facts_at c.args.after t.runs))) c.self.view_is c.differing.ensures.gone

pub returns-clause-come : goal.returns-clause-come
returns-clause-come c =
    subst (λ (t : KeptRuns Edge). IfOk c.differing.result (λ both. ListsOnlyIn both.come (facts_at c.args.after t.runs) (facts_at c.args.before t.runs))) c.self.view_is c.differing.ensures.come
