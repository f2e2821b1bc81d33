use Rattle.oem_graph.proofs.GraphLaws.{graph-new, linked-new}
use Rattle.oem_graph.proofs.linked_graph.Graph.new.Goals as goal

pub invariant_of-result : goal.invariant_of-result
invariant_of-result c = linked-new c.new.result c.new-2.result.items c.new-3.result c.new.ensures c.new-2.ensures.items c.new-3.ensures.empty

pub returns : goal.returns
returns c = graph-new c.new.result c.new-2.result.items c.new-3.result c.new.ensures c.new-2.ensures.items c.new-3.ensures.empty
