use Rattle.std.proofs.Common.{sym, ap, ◌∙◌, subst}
use Rattle.lore_base.specs.Databases.{OemGraph}
use Rattle.oem_graph.specs.Graphs.{IsIndexable}
use Rattle.oem_graph.specs.Plans.{graph_then}
use Rattle.oem_graph.proofs.linked_graph.Graph.restored.Goals as goal

pub commit-requires-clause-leads : goal.commit-requires-clause-leads
commit-requires-clause-leads c =
    let same = c.reserve.ensures.same ∙ c.new-graph.ensures in
    subst IsIndexable (sym (ap (λ (g : OemGraph). graph_then g c.in_ok-plan.plan) same ∙ c.in_ok-plan.ensures.plan)) c.requires

pub returns : goal.returns
returns c =
    let same = c.reserve.ensures.same ∙ c.new-graph.ensures in
    c.commit.ensures ∙ ap (λ (g : OemGraph). graph_then g c.in_ok-plan.plan) same ∙ c.in_ok-plan.ensures.plan
