-- Tests whether two paths are equal, and two places.
use Rattle.std.specs.Prelude.{Bool, true, false, ◌&&◌, ◌==◌, List}
use Rattle.std.specs.Str.{bytes_eq}
use Rattle.std.specs.Cmp.Lexicographic.{pointwise}
use Rattle.lore_base.specs.declared.paths.Pattern.{Pattern}
use Rattle.lore_base.specs.declared.paths.Pattern.TheVariants.{Plain, Wild}
use Rattle.lore_base.specs.Paths.{PathTree, PathTrees, step, any, seq, alt, opt, star, plus, none, more}
use Rattle.lorel_ranges.specs.Places.{Root, named, ranged, quantified, Place}

abbrev pub same_pattern : Pattern → Pattern → Bool
same_pattern (Plain a) (Plain b) = bytes_eq a b
same_pattern (Wild a) (Wild b) = bytes_eq a b
same_pattern _ _ = false

abbrev mutual
  pub same_tree : PathTree → PathTree → Bool
  same_tree (step a) (step b) = same_pattern a b
  same_tree any any = true
  same_tree (seq a) (seq b) = same_trees a b
  same_tree (alt a) (alt b) = same_trees a b
  same_tree (opt a) (opt b) = same_tree a b
  same_tree (star a) (star b) = same_tree a b
  same_tree (plus a) (plus b) = same_tree a b
  same_tree _ _ = false

  pub same_trees : PathTrees → PathTrees → Bool
  same_trees none none = true
  same_trees (more a others) (more b last) = same_tree a b && same_trees others last
  same_trees _ _ = false

abbrev pub same_parts : List PathTree → List PathTree → Bool
same_parts = pointwise same_tree

abbrev pub same_root : Root → Root → Bool
same_root (named a) (named b) = bytes_eq a b
same_root (ranged a) (ranged b) = bytes_eq a b
same_root (quantified a) (quantified b) = a == b
same_root _ _ = false

abbrev pub same_place : Place → Place → Bool
same_place a b = same_root a.root b.root && same_parts a.parts b.parts
