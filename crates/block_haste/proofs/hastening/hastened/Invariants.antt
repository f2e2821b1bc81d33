use Rattle.std.proofs.Common.{◌-◌, ◌^◌, length}
use Rattle.block_haste.specs.inside.Hastening.{IsHastening}
use Rattle.block_haste.proofs.hastening.hastened.Given as goal

abbrev pub invariant-rounds : goal.invariant-rounds
invariant-rounds l =
    IsHastening l.graph.rows.now l.graph.kinds.now l.graph.edges.items l.state.tags.items l.state.parts.numbers.items l.state.tally
    l.state.parts.lists.items l.state.changed.items l.state.parts.marks.items

abbrev pub decreases-rounds : goal.decreases-rounds
decreases-rounds l = 2 ^ 64 - length l.state.parts.origins.items
