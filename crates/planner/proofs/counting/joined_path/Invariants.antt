use Rattle.std.proofs.Common.{◌≡◌, ◌++◌, map, drop}
use Rattle.lore_base.specs.Paths.{path_trees}
use Rattle.lorel_bound.specs.Bound.{range_tree}
use Rattle.planner.proofs.counting.joined_path.Given as goal

abbrev pub invariant-ranges-2 : goal.invariant-ranges-2
invariant-ranges-2 l =
    path_trees l.parts ++ map (λ range. range.path) (map range_tree (drop l.range-index l.ranges))
    ≡ map (λ range. range.path) (map range_tree l.fn.ranges)
