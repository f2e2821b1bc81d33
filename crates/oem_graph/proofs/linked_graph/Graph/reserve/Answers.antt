use Rattle.oem_graph.proofs.GraphLaws.{linked-room, linked-moved}
use Rattle.oem_graph.proofs.linked_graph.Graph.reserve.Goals as goal

pub invariant_of-self : goal.invariant_of-self
invariant_of-self c = linked-moved c.self.inside.names c.self.inside.objects.items c.reserve.new.self.items c.self.inside.records c.self.inside.next
    c.reserve.ensures.items c.self.invariant

pub invariant_of-self-2 : goal.invariant_of-self-2
invariant_of-self-2 c = linked-room c.self.inside.names c.self.inside.objects.items c.reserve.new.self.items c.self.inside.records c.reserve-2.new.self c.self.inside.next
    c.reserve.ensures.items c.reserve-2.ensures.rest_kept c.self.invariant

pub invariant_of-self-in_err-reserve-2 : goal.invariant_of-self-in_err-reserve-2
invariant_of-self-in_err-reserve-2 c = linked-room c.self.inside.names c.self.inside.objects.items c.reserve.new.self.items c.self.inside.records c.reserve-2.new.self c.self.inside.next
    c.reserve.ensures.items c.reserve-2.ensures.rest_kept c.self.invariant
