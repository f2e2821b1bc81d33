-- Equality of paths and of places can be tested.
use Rattle.std.proofs.Common.{◌≡◌, Bool, List, ap, refl}
use Rattle.std.specs.Bool.{Decides}
use Rattle.std.specs.Str.{bytes_eq}
use Rattle.std.proofs.lemmas.Bool.{and_parts, and_from}
use Rattle.std.proofs.lemmas.Bool.Decides.{Decides-eqb}
use Rattle.std.proofs.lemmas.Slice.Eq.{bytes_eq-Decides, slice_eq-Decides}
use Rattle.lore_base.specs.declared.paths.Pattern.{Pattern}
use Rattle.lore_base.specs.declared.paths.Pattern.TheVariants.{Plain, Wild}
use Rattle.lore_base.specs.Paths.{PathTree, PathTrees, step, any, seq, alt, opt, star, plus, none, more}
use Rattle.lorel_ranges.specs.Places.{Root, named, ranged, quantified, Place}
use Rattle.lorel_ranges.specs.inside.Equality.{same_pattern, same_tree, same_trees, same_parts, same_root, same_place}
use Rattle.lore_base.proofs.ToldLaws.{IsTold, told_by}

-- what is decided of an argument is decided of what is made of it, where different arguments make different things
decides_within : {X Y : Type 0} (f : X → Y) (a b : X) (r : Bool) → (f a ≡ f b → a ≡ b) → Decides r (a ≡ b) → Decides r (f a ≡ f b)
decides_within f a b r apart d = (λ passes. ap f (d.0 passes), λ same. d.1 (apart same))

pub same_pattern-Decides : (a b : Pattern) → Decides (same_pattern a b) (a ≡ b)
same_pattern-Decides (Plain a) (Plain b) = decides_within Plain a b (bytes_eq a b) (λ same. cc) (bytes_eq-Decides a b)
same_pattern-Decides (Wild a) (Wild b) = decides_within Wild a b (bytes_eq a b) (λ same. cc) (bytes_eq-Decides a b)
same_pattern-Decides _ _ = (λ passes. cc, λ same. cc)

mutual
  pub same_tree-Decides : (a b : PathTree) → Decides (same_tree a b) (a ≡ b)
  same_tree-Decides (step a) (step b) = decides_within step a b (same_pattern a b) (λ same. cc) (same_pattern-Decides a b)
  same_tree-Decides any any = (λ passes. refl, λ same. refl)
  same_tree-Decides (seq a) (seq b) = decides_within seq a b (same_trees a b) (λ same. cc) (same_trees-Decides a b)
  same_tree-Decides (alt a) (alt b) = decides_within alt a b (same_trees a b) (λ same. cc) (same_trees-Decides a b)
  same_tree-Decides (opt a) (opt b) = decides_within opt a b (same_tree a b) (λ same. cc) (same_tree-Decides a b)
  same_tree-Decides (star a) (star b) = decides_within star a b (same_tree a b) (λ same. cc) (same_tree-Decides a b)
  same_tree-Decides (plus a) (plus b) = decides_within plus a b (same_tree a b) (λ same. cc) (same_tree-Decides a b)
  same_tree-Decides _ _ = (λ passes. cc, λ same. cc)

  same_trees-Decides : (a b : PathTrees) → Decides (same_trees a b) (a ≡ b)
  same_trees-Decides none none = (λ passes. refl, λ same. refl)
  same_trees-Decides (more a others) (more b last) =
      let first = same_tree-Decides a b in
      let rest = same_trees-Decides others last in (
        λ passes. (let both = and_parts (same_tree a b) (same_trees others last) passes in
            let one = first.0 both.0 in let two = rest.0 both.1 in cc),
        λ same. and_from (same_tree a b) (same_trees others last) (first.1 cc) (rest.1 cc),
      )
  same_trees-Decides _ _ = (λ passes. cc, λ same. cc)

pub same_parts-Decides : (a b : List PathTree) → Decides (same_parts a b) (a ≡ b)
same_parts-Decides a b = slice_eq-Decides same_tree-Decides a b (same_parts a b) refl

pub same_root-Decides : (a b : Root) → Decides (same_root a b) (a ≡ b)
same_root-Decides (named a) (named b) = decides_within named a b (bytes_eq a b) (λ same. cc) (bytes_eq-Decides a b)
same_root-Decides (ranged a) (ranged b) = decides_within ranged a b (bytes_eq a b) (λ same. cc) (bytes_eq-Decides a b)
same_root-Decides (quantified a) (quantified b) = decides_within quantified a b _ (λ same. cc) (Decides-eqb a b)
same_root-Decides _ _ = (λ passes. cc, λ same. cc)

-- a place is its start and its parts
pub place_from : (a b : Place) → a.root ≡ b.root → a.parts ≡ b.parts → a ≡ b
place_from a b root parts = λ i. record { root = root i; parts = parts i }

pub same_place-Decides : (a b : Place) → Decides (same_place a b) (a ≡ b)
same_place-Decides a b = (
  λ passes. (let both = and_parts (same_root a.root b.root) (same_parts a.parts b.parts) passes in
      place_from a b ((same_root-Decides a.root b.root).0 both.0) ((same_parts-Decides a.parts b.parts).0 both.1)),
  λ same. and_from (same_root a.root b.root) (same_parts a.parts b.parts)
      ((same_root-Decides a.root b.root).1 (ap (λ (p : Place). p.root) same))
      ((same_parts-Decides a.parts b.parts).1 (ap (λ (p : Place). p.parts) same)),
)

pub told_place : (a b : Place) → IsTold (a ≡ b)
told_place a b = told_by (same_place a b) (same_place-Decides a b)
