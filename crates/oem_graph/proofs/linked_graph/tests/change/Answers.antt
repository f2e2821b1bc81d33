use Rattle.std.proofs.Common.{sym, ap, ◌∙◌, subst}
use Rattle.lore_base.specs.Databases.{OemGraph}
use Rattle.oem_graph.specs.Graphs.{IsIndexable}
use Rattle.oem_graph.specs.Plans.{graph_then}
use Rattle.oem_graph.proofs.SampleLaws.{after-indexable}
use Rattle.oem_graph.proofs.linked_graph.tests.change.Goals as goal

pub commit-requires-clause-leads : goal.commit-requires-clause-leads
commit-requires-clause-leads c =
    let same = c.reserve.ensures.same ∙ c.requires in
    subst IsIndexable (sym (ap (λ (g : OemGraph). graph_then g c.in_ok-plan.plan) same ∙ c.in_ok-plan.ensures)) after-indexable
