-- How a path is walked: what a way spells, and what its steps take.
use Rattle.std.proofs.Common.{◌≡◌, ◌↔◌, ℕ, ◌+◌, ◌≤◌, List, [], ◌∷◌, ◌++◌, length, get_or, map, All, Option, Some, None, IfSome, refl, sym, ap, ◌∙◌, subst, arith}
use Rattle.std.specs.List.{sum_by}
use Rattle.std.proofs.Math.Nat.{mul-le-mul_left, mul-le-mul_right}
use Rattle.std.proofs.lemmas.List.{append-nil}
use Rattle.std.proofs.lemmas.List.Elements.{All-head, All-tail}
use Rattle.std.proofs.lemmas.List.Sums.{get_or-le-sum_by, sum_by-le-sum_by}
use Rattle.lore_base.specs.Paths.{PathTree, path_tree, trees_of, seq, step, more, none, leaves, leaves_of, Spells, Reaches}
use Rattle.lore_base.specs.declared.paths.Path.{Path}
use Rattle.product_walk.specs.Types.{Oid, Label, Edge, Pattern, END}
use Rattle.product_walk.specs.ProductWalks.{ReachesInto, TakesReads}
use Rattle.product_walk.specs.inside.Arcs.{along, against}
use Rattle.product_walk.specs.inside.Ways.{SpellAlike, GoesBy, FromSome, IsLabel, IsWay, TakesTimes}
use Rattle.product_walk.specs.declared.routes.Way.{Way}
use Rattle.product_walk.specs.declared.routes.Way.TheVariants.{Stay, Child, InTurn, Search}
use Rattle.product_walk.proofs.LevelLaws.{goes_reaches}

-- a path alone in a sequence spells its own words
spells_alone : (labels : List (List ℕ)) (path : PathTree) (word : List Label) → Spells labels (seq (more path none)) word ↔ Spells labels path word
spells_alone labels path word = (
  λ h. subst (Spells labels path) (sym (h.2 ∙ ap (λ (rest : List Label). h.0 ++ rest) h.4 ∙ append-nil h.0)) h.3,
  λ h. (word, [], sym (append-nil word), h, refl),
)

alike_alone : (path other : PathTree) → SpellAlike path other → SpellAlike (seq (more path none)) other
alike_alone path other alike labels word = (
  λ h. (alike labels word).0 ((spells_alone labels path word).0 h),
  λ h. (spells_alone labels path word).1 ((alike labels word).1 h),
)

-- and is walked the same way
pub IsWay-alone : (path : PathTree) (way : Way) → IsWay path way → IsWay (seq (more path none)) way
IsWay-alone path Stay alike = alike_alone path (seq none) alike
IsWay-alone path (Child pattern) alike = alike_alone path (step pattern.now) alike
IsWay-alone path (InTurn parts) turn = (alike_alone path (seq (trees_of (map path_tree parts.now))) turn.0, turn.1, turn.2, turn.3)
IsWay-alone path (Search machine) stands = λ labels word. (
  λ h. (spells_alone labels path word).1 ((stands labels word).0 h),
  λ h. (stands labels word).1 ((spells_alone labels path word).0 h),
)

-- so is the only one of some parts
pub one_way : (parts : List Path) (trees : List PathTree) (part : Path) (answer : Option Way) → map path_tree parts ≡ trees → length parts ≡ 1 → part ≡ get_or parts 0 part
    → IfSome answer (IsWay (path_tree part)) → IfSome answer (IsWay (seq (trees_of trees)))
one_way [] trees part answer are one is way = absurd (omega (arith, one))
one_way (first ∷ []) trees part None are one is way = tt
one_way (first ∷ []) trees part (Some found) are one is way =
    subst (λ (list : List PathTree). IsWay (seq (trees_of list)) found) are
    (IsWay-alone (path_tree first) found (subst (λ (p : Path). IsWay (path_tree p) found) is way))
one_way (first ∷ second ∷ parts) trees part answer are one is way = absurd (omega (arith, one))

-- paths that spell alike reach the same
pub alike_reaches : (path other : PathTree) → SpellAlike path other → (labels : List (List ℕ)) (edges : List Edge) (x y : Oid)
    → Reaches labels edges other x y ↔ Reaches labels edges path x y
alike_reaches path other alike labels edges x y = (
  λ h. (h.0, (alike labels h.0).1 h.1, h.2),
  λ h. (h.0, (alike labels h.0).0 h.1, h.2),
)

pub alike_back : (path other : PathTree) → SpellAlike path other → (labels : List (List ℕ)) (edges : List Edge) (to : List Oid) (x : Oid)
    → ReachesInto labels edges other to x ↔ ReachesInto labels edges path to x
alike_back path other alike labels edges to x = (
  λ h. (h.0, h.1, (alike_reaches path other alike labels edges x h.0).0 h.2),
  λ h. (h.0, h.1, (alike_reaches path other alike labels edges x h.0).1 h.2),
)

-- so a path that is one label reaches the children by those that fit
pub by_label : (path : PathTree) (pattern : Pattern) → SpellAlike path (step pattern) → (labels : List (List ℕ)) (edges : List Edge) (x y : Oid)
    → GoesBy labels (along edges) pattern x y ↔ Reaches labels edges path x y
by_label path pattern alike labels edges x y = (
  λ h. (alike_reaches path (step pattern) alike labels edges x y).0 ((goes_reaches labels edges pattern x y).0 h),
  λ h. (goes_reaches labels edges pattern x y).1 ((alike_reaches path (step pattern) alike labels edges x y).1 h),
)

-- and is reached from the parents by those that fit
pub back_by_label : (path : PathTree) (pattern : Pattern) → SpellAlike path (step pattern) → (labels : List (List ℕ)) (edges : List Edge) (to : List Oid) (x : Oid)
    → FromSome (GoesBy labels (against edges) pattern) to x ↔ ReachesInto labels edges path to x
back_by_label path pattern alike labels edges to x = (
  λ h. (h.0, h.1, (by_label path pattern alike labels edges x h.0).0 h.2),
  λ h. (h.0, h.1, (by_label path pattern alike labels edges x h.0).1 h.2),
)

-- labels have a leaf each
pub label_leaves : (parts : List Path) → All IsLabel parts → leaves_of (trees_of (map path_tree parts)) ≡ length parts
label_leaves [] labels = refl
label_leaves (part ∷ parts) labels =
    let first : leaves (path_tree part) ≡ 1 = ap leaves (All-head IsLabel part parts labels).1 in
    let others : leaves_of (trees_of (map path_tree parts)) ≡ length parts = label_leaves parts (All-tail IsLabel part parts labels) in
    omega (arith, first, others)

-- the edges of one object that passes are read once
pub one_taken : (reads : Oid → ℕ) (Passes : Oid → Type 0) (from : Oid) (before after : ℕ) → Passes from → after ≡ before + reads from → TakesTimes 1 reads Passes before after
one_taken reads Passes from before after passes is all whole =
    let at = whole from passes in
    let within : reads from ≤ sum_by reads all = subst (λ (oid : Oid). reads oid ≤ sum_by reads all) at.2 (get_or-le-sum_by reads all at.0 from at.1) in
    omega (arith, is, within)

-- a few reads of each object take no more than they may
pub few_reads : (count : ℕ) (reads : Oid → ℕ) (Passes : Oid → Type 0) (before after : ℕ) → count ≤ END + 1 → TakesTimes count reads Passes before after
    → TakesReads reads Passes before after
few_reads count reads Passes before after few takes all whole = omega (arith, takes all whole, mul-le-mul_right (sum_by reads all) few)

-- nor does one of a single object
pub one_read : (reads : Oid → ℕ) (Passes : Oid → Type 0) (from : Oid) (before after : ℕ) → Passes from → after ≡ before + reads from → TakesReads reads Passes before after
one_read reads Passes from before after passes is = few_reads 1 reads Passes before after (omega arith) (one_taken reads Passes from before after passes is)

-- few reads of some of the objects, which take no more each
pub fewer_reads : (count : ℕ) (reads most : Oid → ℕ) (Few Passes : Oid → Type 0) (before after : ℕ) → count ≤ END + 1 → ((oid : Oid) → reads oid ≤ most oid)
    → ((oid : Oid) → Few oid → Passes oid) → TakesTimes count reads Few before after → TakesReads most Passes before after
fewer_reads count reads most Few Passes before after few less among takes =
    few_reads count most Passes before after few (λ all whole. omega (arith, takes all (λ oid at. whole oid (among oid at)), mul-le-mul_left count (sum_by-le-sum_by reads most all less)))
