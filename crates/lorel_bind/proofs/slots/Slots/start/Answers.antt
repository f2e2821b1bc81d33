use Rattle.lorel_ranges.specs.Views.{place_tree, ranges_of}
use Rattle.lorel_bind.proofs.SlotLaws.{slot_stands}
use Rattle.lorel_bind.proofs.slots.Slots.start.Goals as goal

pub returns-in-None : goal.returns-in-None
returns-in-None c has =
    slot_stands c.args.self.now.names.now (ranges_of c.args.self.now.fused.items) (place_tree c.args.place) c.slot.result
    c.in-None.ensures.none c.slot.ensures has
