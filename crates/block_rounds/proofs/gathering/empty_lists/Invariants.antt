use Rattle.std.proofs.Common.{◌≡◌, [], replicate}
use Rattle.block_rounds.proofs.gathering.empty_lists.Given as goal

abbrev pub invariant-lists : goal.invariant-lists
invariant-lists g l = l.lists.items ≡ replicate l._number []
