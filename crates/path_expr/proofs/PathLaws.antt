-- The plain data of a path that repeats its part.
use Rattle.std.proofs.Common.{◌≡◌, List, sym, ap, ◌∙◌}
use Rattle.lore_base.specs.declared.paths.Path.{Star, Plus}
use Rattle.lore_base.specs.declared.paths.Path.TheOpen as layer
use Rattle.lore_base.specs.declared.paths.Path.TheVariants.{rolls-Star, rolls-Plus}
use Rattle.lore_base.specs.declared.paths.Path.TheFolds.{fold-roll-Path}
use Rattle.lore_base.specs.Paths.{PathTree, star, plus, path_tree, path_step, list_step}

pub star_tree : (part : _) → path_tree (Star part) ≡ star (path_tree part.value)
star_tree part = ap path_tree (sym (rolls-Star part)) ∙ fold-roll-Path PathTree (List PathTree) path_step list_step (layer.Star part)

pub plus_tree : (part : _) → path_tree (Plus part) ≡ plus (path_tree part.value)
plus_tree part = ap path_tree (sym (rolls-Plus part)) ∙ fold-roll-Path PathTree (List PathTree) path_step list_step (layer.Plus part)
