use Rattle.std.proofs.Common.{◌↔◌, map, drop}
use Rattle.lorel_bound.specs.Bound.{range_tree}
use Rattle.lorel_bound.specs.Plans.{FollowOn}
use Rattle.planner.proofs.beginnings.follow_on.Given as goal

abbrev pub invariant-ranges-2 : goal.invariant-ranges-2
invariant-ranges-2 l = FollowOn l.slot (map range_tree (drop l.slot l.ranges)) ↔ FollowOn 0 (map range_tree l.ranges)
