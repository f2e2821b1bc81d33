use Rattle.lorel_ranges.specs.Views.{place_tree, ranges_of}
use Rattle.lorel_bind.proofs.SlotLaws.{start_outside}
use Rattle.lorel_bind.proofs.slots.Slots.bound_start.Goals as goal

pub returns-in-Named : goal.returns-in-Named
returns-in-Named c has =
    c.in-Named.ensures (start_outside c.args.self.now.names.now (ranges_of c.args.self.now.fused.items) (place_tree c.args.place) c.in-None.ensures.none has)

pub returns-in-Slot : goal.returns-in-Slot
returns-in-Slot c has =
    c.in-Slot.ensures (start_outside c.args.self.now.names.now (ranges_of c.args.self.now.fused.items) (place_tree c.args.place) c.in-None.ensures.none has)
