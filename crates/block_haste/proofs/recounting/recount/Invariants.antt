use Rattle.std.proofs.Common.{◌≡◌, ℕ, List, length, take}
use Rattle.block_haste.specs.inside.Marking.{keys_of}
use Rattle.block_haste.specs.inside.Recounting.{IsRecounted}
use Rattle.block_haste.proofs.recounting.recount.Given as goal

abbrev pub invariant-places : goal.invariant-places
invariant-places l = record {
  every : length l.recounted.tally ≡ length l.edges;
  recounted : (tags : List ℕ) → l.fn.tally ≡ keys_of l.edges tags
      → IsRecounted l.edges (take l.place-index l.places) tags l.numbers l.recounted.tally l.recounted.events;
}
