use Rattle.std.proofs.Common.{◌≡◌, ◌++◌, map, drop}
use Rattle.lore_base.specs.Paths.{path_tree, path_trees}
use Rattle.lorel_bind.proofs.conditions.push_copies.Given as goal

abbrev pub invariant-parts : goal.invariant-parts
invariant-parts l = path_trees l.list ++ map path_tree (drop l.part-index l.parts) ≡ path_trees l.fn.list ++ map path_tree l.fn.parts
