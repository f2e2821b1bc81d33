use Rattle.std.proofs.Common.{◌≡◌, ◌++◌, map, drop}
use Rattle.lore_base.specs.Paths.{path_tree, path_trees}
use Rattle.lorel_bind.proofs.slots.joined_path.Given as goal

abbrev pub invariant-parts : goal.invariant-parts
invariant-parts l =
    path_trees l.list ++ map (λ part. path_tree part.now) (drop l.part-index l.parts) ≡ map (λ part. path_tree part.now) l.fn.parts
