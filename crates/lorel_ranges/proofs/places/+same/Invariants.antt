use Rattle.std.proofs.Common.{◌≡◌, map, take}
use Rattle.lore_base.specs.Paths.{path_tree}
use Rattle.lorel_ranges.proofs.places.+same.Given as goal

abbrev pub invariant-same_parts-parts : goal.invariant-same_parts-parts
invariant-same_parts-parts l = map path_tree (take l.number l.a) ≡ map path_tree (take l.number l.b)
