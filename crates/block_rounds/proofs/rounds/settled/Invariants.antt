use Rattle.std.proofs.Common.{◌-◌, ◌^◌, length}
use Rattle.block_rounds.specs.Partitions.{IsRefining}
use Rattle.block_rounds.proofs.rounds.settled.Given as goal

abbrev pub invariant-rounds : goal.invariant-rounds
invariant-rounds l = IsRefining l.rows l.kinds l.numbers.items l.heads.items

abbrev pub decreases-rounds : goal.decreases-rounds
decreases-rounds l = 2 ^ 64 - length l.heads.items
