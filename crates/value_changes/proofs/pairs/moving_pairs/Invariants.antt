use Rattle.std.proofs.Common.{take}
use Rattle.value_changes.specs.inside.Sets.{AreSetOf}
use Rattle.value_changes.specs.inside.Pairs.{pair_cmp, IsMoving}
use Rattle.value_changes.proofs.pairs.moving_pairs.Given as goal

abbrev pub invariant-pairs : goal.invariant-pairs
invariant-pairs l = AreSetOf pair_cmp (IsMoving (take l.pair-index l.pairs) l.others l.given) l.moving
