use Rattle.std.proofs.Common.{◌≡◌, ◌++◌, map, drop}
use Rattle.lore_base.specs.Paths.{path_tree, path_trees}
use Rattle.lore_base.proofs.paths.+copy.Given as goal

abbrev pub invariant-copy_parts-parts : goal.invariant-copy_parts-parts
invariant-copy_parts-parts l = map path_tree l.items.items ++ map path_tree (drop l.part-index l.part-items) ≡ path_trees l.fn.parts
