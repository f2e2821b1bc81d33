use Rattle.std.proofs.Common.{◌≤◌, ◌-◌, length, take}
use Rattle.lorel_lex.specs.Gaps.{IsGap}
use Rattle.lorel_lex.proofs.gaps.gap_len.Given as goal

abbrev pub invariant-pieces : goal.invariant-pieces
invariant-pieces l = record {
  within : l.at ≤ length l.bytes;
  dropped : IsGap (take l.at l.bytes);
}

abbrev pub decreases-pieces : goal.decreases-pieces
decreases-pieces l = length l.bytes - l.at
