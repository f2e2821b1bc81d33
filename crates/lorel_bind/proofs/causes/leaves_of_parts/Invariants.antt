use Rattle.std.proofs.Common.{◌≡◌, ◌+◌, ◌-◌, ◌^◌, ◌<◌, min, map, drop}
use Rattle.lore_base.specs.Paths.{path_tree, trees_of, leaves_of}
use Rattle.lorel_bind.proofs.causes.leaves_of_parts.Given as goal

abbrev pub invariant-parts : goal.invariant-parts
invariant-parts l = record {
  so_far : min (2 ^ 64 - 1) (l.count + leaves_of (trees_of (map path_tree (drop l.part-index l.parts)))) ≡ min (2 ^ 64 - 1) (leaves_of (trees_of (map path_tree l.parts)));
  fits : l.count < 2 ^ 64;
}
