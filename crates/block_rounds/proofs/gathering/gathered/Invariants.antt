use Rattle.std.proofs.Common.{◌≡◌, length, take}
use Rattle.block_rounds.specs.Gathered.{AreGathered}
use Rattle.block_rounds.proofs.gathering.gathered.Given as goal

abbrev pub invariant-pairs : goal.invariant-pairs
invariant-pairs g l = record {
  every : length l.lists.items ≡ l.count;
  items : AreGathered (take l.pair-index l.pairs) l.lists.items;
}
