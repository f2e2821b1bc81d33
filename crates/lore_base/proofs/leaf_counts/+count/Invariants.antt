use Rattle.std.proofs.Common.{◌≡◌, ◌+◌, ◌-◌, ◌^◌, ◌<◌, min, map, drop}
use Rattle.lore_base.specs.Paths.{path_tree, path_trees, trees_of, leaves_of}
use Rattle.lore_base.proofs.leaf_counts.+count.Given as goal

abbrev pub invariant-leaf_count-parts : goal.invariant-leaf_count-parts
invariant-leaf_count-parts l = record {
  so_far : min (2 ^ 64 - 1) (l.count + leaves_of (trees_of (map path_tree (drop l.part-index l.part-items))))
      ≡ min (2 ^ 64 - 1) (leaves_of (trees_of (path_trees l.fn.parts)));
  fits : l.count < 2 ^ 64;
}
