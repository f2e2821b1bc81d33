use Rattle.std.proofs.Common.{◌≡◌, length}
use Rattle.lorel_ranges.specs.inside.Joins.{IsPassing}
use Rattle.lorel_ranges.proofs.fusing.fuse.Given as goal

abbrev pub invariant-numbers : goal.invariant-numbers
invariant-numbers l = record {
  passing : IsPassing l.fn.ranges.items l.number l.ranges.items;
  long : length l.ranges.items ≡ l.number-end;
}
