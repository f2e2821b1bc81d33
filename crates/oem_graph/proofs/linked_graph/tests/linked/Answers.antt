use Rattle.std.proofs.Common.{◌≡◌, sym, ◌∙◌, subst}
use Rattle.lore_base.specs.Databases.{OemGraph}
use Rattle.oem_graph.specs.Graphs.{IsIndexable}
use Rattle.oem_graph.specs.inside.Samples.{sample, edges_before}
use Rattle.oem_graph.proofs.SampleLaws.{before-indexable}
use Rattle.oem_graph.proofs.linked_graph.tests.linked.Goals as goal

pub restored-requires : goal.restored-requires
restored-requires c =
    let is : ◌≡◌ {A = OemGraph} (record { names = c.new-3.result; objects = c.in_ok-objects.field-0; edges = c.in_ok-edges.field-0; next = 3 }) (sample edges_before)
    = λ i. record { names = c.new-3.ensures i; objects = c.in_ok-objects.ensures i; edges = c.in_ok-edges.ensures i; next = 3 } in
    subst IsIndexable (sym is) before-indexable

pub returns : goal.returns
returns c =
    let is : ◌≡◌ {A = OemGraph} (record { names = c.new-3.result; objects = c.in_ok-objects.field-0; edges = c.in_ok-edges.field-0; next = 3 }) (sample edges_before)
    = λ i. record { names = c.new-3.ensures i; objects = c.in_ok-objects.ensures i; edges = c.in_ok-edges.ensures i; next = 3 } in
    c.in_ok-graph.ensures ∙ is
