use Rattle.std.proofs.Common.{◌≡◌, ◌++◌, map, drop}
use Rattle.lore_base.specs.Paths.{path_tree, path_trees}
use Rattle.select_hints.proofs.joined.put_each.Given as goal

abbrev pub invariant-own : goal.invariant-own
invariant-own l = path_trees l.parts ++ map path_tree (drop l.path-index l.paths) ≡ path_trees l.fn.parts ++ map path_tree l.fn.paths
