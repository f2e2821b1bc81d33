-- Which comparisons fit, the first that does among others, and ranges that follow on.
use Rattle.std.proofs.Common.{◌≡◌, ℕ, suc, ◌+◌, ◌-◌, ◌<◌, ◌↔◌, inl, inr, List, [], ◌∷◌, ◌++◌, length, map, get_or, take, drop, refl, sym, ap, subst, ◌∙◌, add-one}
use Rattle.std.specs.Prelude.{Some, slice_get}
use Rattle.std.proofs.lemmas.List.{map-append}
use Rattle.list_laws.proofs.PartLaws.{drop_more_read}
use Rattle.lore_base.specs.declared.paths.Path.{Path, Seq}
use Rattle.lore_base.specs.declared.paths.Path.TheOpen as path_layer
use Rattle.lore_base.specs.declared.paths.Path.TheVariants.{rolls-Seq}
use Rattle.lore_base.specs.declared.paths.Path.TheFolds.{fold-roll-Path}
use Rattle.lore_base.specs.declared.paths.PathList.{PathList}
use Rattle.lore_base.specs.declared.operators.Op.{Op}
use Rattle.lore_base.specs.declared.values.Value.{Value}
use Rattle.lore_base.specs.Paths.{PathTree, step, any, seq, trees_of, path_tree, path_trees, path_step, list_step}
use Rattle.lorel_bound.specs.declared.bound.Range.{Range}
use Rattle.lorel_bound.specs.declared.conditions.BoundCond.{BoundCond}
use Rattle.lorel_bound.specs.Bound.{BoundPathTree, range_tree, bound_cond, conds_from}
use Rattle.lorel_bound.specs.Conditions.{CondOf, compare, at, constant}
use Rattle.lorel_bound.specs.Plans.{Probe, IsFitting, DoesNotFit, IsFirstFitting, FollowOn}
use Rattle.planner.specs.Types.starts
use Rattle.planner.specs.Types.{Plain}
use Rattle.planner.specs.inside.Probes.{EndsIn, PartsEndIn}
use Rattle.planner.proofs.ReadLaws.{last_item}

-- ---- paths by their parts
pub trees_same : (xs ys : List PathTree) → trees_of xs ≡ trees_of ys → xs ≡ ys
trees_same [] [] same = refl
trees_same [] (y ∷ ys) same = cc
trees_same (x ∷ xs) [] same = cc
trees_same (x ∷ xs) (y ∷ ys) same =
    let rest : trees_of xs ≡ trees_of ys = cc in
    let later = trees_same xs ys rest in
    let first : x ≡ y = cc in
    cc

seq_tree : (parts : PathList) → path_tree (Seq parts) ≡ seq (trees_of (path_trees parts))
seq_tree parts = ap path_tree (sym (rolls-Seq parts)) ∙ fold-roll-Path PathTree (List PathTree) path_step list_step (path_layer.Seq parts)

pub ends_in_parts : (path : Path) (parts : PathList) (label : List ℕ) → path ≡ Seq parts → EndsIn (path_tree path) label → PartsEndIn (path_trees parts) label
ends_in_parts path parts label is ends =
    let same : seq (trees_of (path_trees parts)) ≡ seq (trees_of (ends.0 ++ step (Plain label) ∷ [])) = sym (ap path_tree is ∙ seq_tree parts) ∙ ends.1 in
    let inner : trees_of (path_trees parts) ≡ trees_of (ends.0 ++ step (Plain label) ∷ []) = cc in
    (ends.0, trees_same (path_trees parts) (ends.0 ++ step (Plain label) ∷ []) inner)

pub last_part : (paths : List Path) (path : Path) (label : List ℕ) → slice_get paths (length paths - 1) ≡ Some path
    → path_tree path ≡ step (Plain label) → PartsEndIn (map path_tree paths) label
last_part paths path label is same =
    let front = take (length paths - 1) paths in (
      map path_tree front,
      ap (map path_tree) (last_item paths path is) ∙ map-append path_tree front (path ∷ [])
          ∙ ap (λ (tree : PathTree). map path_tree front ++ tree ∷ []) same,
    )

-- ---- conditions by their forms
-- the rest of the path on the left of a comparison
abbrev rest_of : CondOf BoundPathTree → PathTree
rest_of (compare (at path) op right) = path.rest
rest_of _ = any

-- a path that ends in no plain label does not fit
pub unended : (path : BoundPathTree) (op : Op) (value : Value) → ((label : List ℕ) → EndsIn path.rest label → ⊥)
    → DoesNotFit (compare (at path) op (constant value))
unended path op value none probe fits = none probe.label (fits.parts, ap rest_of fits.compares ∙ fits.ends)

-- ---- the first that fits
pub first_fits : (conds : List BoundCond) (i : ℕ) (cond : BoundCond) (probe : Probe) → i < length conds → cond ≡ get_or conds i cond
    → IsFitting (bound_cond cond) probe → IsFirstFitting (conds_from (map bound_cond (drop i conds))) probe
first_fits conds i cond probe low is fits =
    subst (λ (left : List BoundCond). IsFirstFitting (conds_from (map bound_cond left)) probe) (sym (drop_more_read conds i cond low is)) (inl fits)

pub first_is_later : (conds : List BoundCond) (i : ℕ) (cond : BoundCond) (probe : Probe) → i < length conds → cond ≡ get_or conds i cond
    → DoesNotFit (bound_cond cond)
    → IsFirstFitting (conds_from (map bound_cond (drop (i + 1) conds))) probe ↔ IsFirstFitting (conds_from (map bound_cond (drop i conds))) probe
first_is_later conds i cond probe low is unfit =
    subst (λ (left : List BoundCond). IsFirstFitting (conds_from (map bound_cond (drop (i + 1) conds))) probe ↔ IsFirstFitting (conds_from (map bound_cond left)) probe)
    (sym (drop_more_read conds i cond low is))
    (λ later. inr (unfit, later), λ first. elim first [ inl fits ↦ absurd (unfit probe fits) | inr later ↦ later.1 ])

-- ---- ranges that follow on
pub follow_more : (ranges : List Range) (slot : ℕ) (range : Range) → slot < length ranges → range ≡ get_or ranges slot range
    → FollowOn slot (map range_tree (drop slot ranges))
    ↔ ((range.start ≡ starts.Slot slot) × FollowOn (slot + 1) (map range_tree (drop (slot + 1) ranges)))
follow_more ranges slot range low is =
    let next : suc slot ≡ slot + 1 = sym (add-one slot) in
    let later : ℕ → Type 0 = λ n. FollowOn n (map range_tree (drop (slot + 1) ranges)) in
    subst (λ (left : List Range). FollowOn slot (map range_tree left) ↔ ((range.start ≡ starts.Slot slot) × later (slot + 1)))
    (sym (drop_more_read ranges slot range low is))
    (λ both. (both.0, subst later next both.1), λ both. (both.0, subst later (sym next) both.1))
