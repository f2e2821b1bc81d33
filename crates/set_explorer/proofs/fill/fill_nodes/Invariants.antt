use Rattle.std.specs.Prelude.{vec_capacity}
use Rattle.set_explorer.proofs.FillLaws.{IsFilling}
use Rattle.set_explorer.proofs.fill.fill_nodes.Given as goal

abbrev pub invariant-nodes : goal.invariant-nodes
invariant-nodes l = IsFilling l.fn.old.items l.fn.nodes.items l.yielded l.planned-iterator.rest.items l.old.items
    l.room.items
    (vec_capacity l.room) l.by_hash.items (vec_capacity l.by_hash)
