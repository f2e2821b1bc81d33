use Rattle.std.proofs.Common.{◌≡◌, take}
use Rattle.block_haste.specs.inside.Marking.{keys_of}
use Rattle.block_haste.proofs.starting.tallied.Given as goal

abbrev pub invariant-edges : goal.invariant-edges
invariant-edges l = l.tally ≡ keys_of (take l.edge-index l.edges) l.tags
