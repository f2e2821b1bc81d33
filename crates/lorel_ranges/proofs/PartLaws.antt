-- Parts of paths as plain data: of a sequence and of alternatives, and lists of them that are the same.
use Rattle.std.proofs.Common.{◌≡◌, ℕ, ◌<◌, ◌↔◌, Bool, IsTrue, List, [], ◌∷◌, length, map, get_or, refl, sym, ap, ◌∙◌, arith}
use Rattle.std.proofs.lemmas.List.{get_or-map}
use Rattle.lore_base.specs.declared.paths.Path.{Path, Seq, Alt}
use Rattle.lore_base.specs.declared.paths.Path.TheOpen as layer
use Rattle.lore_base.specs.declared.paths.Path.TheVariants.{rolls-Seq, rolls-Alt}
use Rattle.lore_base.specs.declared.paths.Path.TheFolds.{fold-roll-Path}
use Rattle.lore_base.specs.declared.paths.PathList.{PathList}
use Rattle.lore_base.specs.Paths.{PathTree, seq, alt, trees_of, path_tree, path_trees, path_step, list_step}

pub trees_same : (xs ys : List PathTree) → trees_of xs ≡ trees_of ys → xs ≡ ys
trees_same [] [] same = refl
trees_same [] (y ∷ ys) same = cc
trees_same (x ∷ xs) [] same = cc
trees_same (x ∷ xs) (y ∷ ys) same =
    let rest : trees_of xs ≡ trees_of ys = cc in
    let later = trees_same xs ys rest in
    let first : x ≡ y = cc in
    cc

pub seq_tree : (parts : PathList) → path_tree (Seq parts) ≡ seq (trees_of (path_trees parts))
seq_tree parts = ap path_tree (sym (rolls-Seq parts)) ∙ fold-roll-Path PathTree (List PathTree) path_step list_step (layer.Seq parts)

pub alt_tree : (parts : PathList) → path_tree (Alt parts) ≡ alt (trees_of (path_trees parts))
alt_tree parts = ap path_tree (sym (rolls-Alt parts)) ∙ fold-roll-Path PathTree (List PathTree) path_step list_step (layer.Alt parts)

-- a test of the parts is one of the path
pub seq_tested : (test : Bool) (p q : Path) (a b : PathList) → p ≡ Seq a → q ≡ Seq b → (IsTrue test ↔ (path_trees a ≡ path_trees b))
    → IsTrue test ↔ (path_tree p ≡ path_tree q)
seq_tested test p q a b is_a is_b tested =
    let first = ap path_tree is_a ∙ seq_tree a in
    let second = ap path_tree is_b ∙ seq_tree b in (
      λ passes. first ∙ ap (λ (parts : List PathTree). seq (trees_of parts)) (tested.0 passes) ∙ sym second,
      λ same. (let inner : trees_of (path_trees a) ≡ trees_of (path_trees b) = cc in tested.1 (trees_same (path_trees a) (path_trees b) inner)),
    )

pub alt_tested : (test : Bool) (p q : Path) (a b : PathList) → p ≡ Alt a → q ≡ Alt b → (IsTrue test ↔ (path_trees a ≡ path_trees b))
    → IsTrue test ↔ (path_tree p ≡ path_tree q)
alt_tested test p q a b is_a is_b tested =
    let first = ap path_tree is_a ∙ alt_tree a in
    let second = ap path_tree is_b ∙ alt_tree b in (
      λ passes. first ∙ ap (λ (parts : List PathTree). alt (trees_of parts)) (tested.0 passes) ∙ sym second,
      λ same. (let inner : trees_of (path_trees a) ≡ trees_of (path_trees b) = cc in tested.1 (trees_same (path_trees a) (path_trees b) inner)),
    )

-- lists that are mapped to the same have items at each place that are
pub map_same_at : {X Y : Type 0} (f : X → Y) (xs ys : List X) (i : ℕ) (x y : X) → i < length xs → length xs ≡ length ys → x ≡ get_or xs i x
    → y ≡ get_or ys i y → map f xs ≡ map f ys → f x ≡ f y
map_same_at f xs ys i x y in_xs long is_x is_y same =
    ap f is_x ∙ sym (get_or-map f xs i x (f x) in_xs) ∙ ap (λ zs. get_or zs i (f x)) same ∙ get_or-map f ys i y (f x) (omega arith) ∙ ap f (sym is_y)
