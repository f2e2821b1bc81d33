-- Leaves: fused ranges have no more than the paths of from items and items, and the rest of a path no more than the path.
use Rattle.std.proofs.Common.{◌≡◌, ℕ, zero, suc, ◌+◌, ◌≤◌, inl, inr, List, [], ◌∷◌, ◌++◌, Option, Some, None, refl, sym, ap, ◌∙◌, arith}
use Rattle.std.specs.List.{flat_map, sum_by}
use Rattle.std.proofs.lemmas.List.Sums.{sum_by-cons, sum_by-append}
use Rattle.lore_base.specs.Paths.{PathTree, trees_of, leaves_of}
use Rattle.lorel_trees.specs.Trees.{FromTree, SelectTree}
use Rattle.lorel_ranges.specs.Places.{ranged, Place, at_root, beyond, Scope, place_of, scope_behind, cell_places}
use Rattle.lorel_ranges.specs.Conditions.{cond_places}
use Rattle.lorel_ranges.specs.Ranges.{PlacedRange, prefix_ranges, path_ranges, from_item_ranges, from_ranges, made_ranges, AreGathered, ArePlain, joined_range, IsUsed, Fuses, FusesTimes, AreFused, IsFixed}
use Rattle.lorel_ranges.specs.Texts.{from_places, text_places}
use Rattle.lorel_bind.specs.Refusals.{leaves_in}

-- the leaves of the paths of ranges
abbrev pub range_leaves : List PlacedRange → ℕ
range_leaves ranges = sum_by (λ range. leaves_of (trees_of range.parts)) ranges

pub leaves_append : (parts more : List PathTree) → leaves_of (trees_of (parts ++ more)) ≡ leaves_of (trees_of parts) + leaves_of (trees_of more)
leaves_append [] more = omega arith
leaves_append (part ∷ parts) more = let later = leaves_append parts more in omega arith

leaves_joined : (front back : List PlacedRange) → range_leaves (front ++ back) ≡ range_leaves front + range_leaves back
leaves_joined front back = sum_by-append (λ (r : PlacedRange). leaves_of (trees_of r.parts)) front back

leaves_more : (range : PlacedRange) (others : List PlacedRange) → range_leaves (range ∷ others) ≡ leaves_of (trees_of range.parts) + range_leaves others
leaves_more range others = sum_by-cons (λ (r : PlacedRange). leaves_of (trees_of r.parts)) range others

-- ---- fusing keeps the leaves
Fuses-leaves : (Used : Place → Type 0) (old new : List PlacedRange) → Fuses Used old new → range_leaves new ≡ range_leaves old
Fuses-leaves Used old new f =
    let was = ap range_leaves f.was ∙ leaves_joined f.front (f.range ∷ (f.middle ++ f.other ∷ f.back)) in
    let was_range = leaves_more f.range (f.middle ++ f.other ∷ f.back) in
    let was_behind = leaves_joined f.middle (f.other ∷ f.back) in
    let was_other = leaves_more f.other f.back in
    let is = ap range_leaves f.is ∙ leaves_joined f.front (f.middle ++ joined_range f.range f.other ∷ f.back) in
    let is_behind = leaves_joined f.middle (joined_range f.range f.other ∷ f.back) in
    let is_other = leaves_more (joined_range f.range f.other) f.back in
    let both = leaves_append f.range.parts f.other.parts in
    omega arith

FusesTimes-leaves : (Used : Place → Type 0) (times : ℕ) (old new : List PlacedRange) → FusesTimes Used times old new → range_leaves new ≡ range_leaves old
FusesTimes-leaves Used zero old new steps = ap range_leaves (sym steps)
FusesTimes-leaves Used (suc times) old new steps =
    FusesTimes-leaves Used times steps.0 new steps.2 ∙ Fuses-leaves Used old steps.0 steps.1

-- ---- plain ranges have no more leaves than those that are made
gathered_leaves : (earlier made ranges : List PlacedRange) → AreGathered earlier made ranges → range_leaves ranges ≤ range_leaves earlier + range_leaves made
gathered_leaves earlier [] ranges same = let sum = ap range_leaves same in omega arith
gathered_leaves earlier (range ∷ made) ranges (inl there) =
    let later = gathered_leaves earlier made ranges there.1 in
    let sum = leaves_more range made in
    omega arith
gathered_leaves earlier (range ∷ made) ranges (inr absent) =
    let later = gathered_leaves (earlier ++ range ∷ []) made ranges absent.1 in
    let first = leaves_joined earlier (range ∷ []) in
    let one = leaves_more range [] in
    let sum = leaves_more range made in
    omega arith

-- ---- the ranges of a path have its leaves
leaves_in_joined : (front back : List Place) → leaves_in (front ++ back) ≡ leaves_in front + leaves_in back
leaves_in_joined front back = sum_by-append (λ (p : Place). leaves_of (trees_of p.parts)) front back

leaves_in_more : (place : Place) (others : List Place) → leaves_in (place ∷ others) ≡ leaves_of (trees_of place.parts) + leaves_in others
leaves_in_more place others = sum_by-cons (λ (p : Place). leaves_of (trees_of p.parts)) place others

prefix_leaves : (start : Place) (parts : List PathTree) → range_leaves (prefix_ranges start parts) ≡ leaves_of (trees_of parts)
prefix_leaves start [] = refl
prefix_leaves start (part ∷ parts) =
    let sum = leaves_more (record { start = start; parts = part ∷ []; place = beyond start (part ∷ []) }) (prefix_ranges (beyond start (part ∷ [])) parts) in
    let later = prefix_leaves (beyond start (part ∷ [])) parts in
    omega arith

paths_leaves : (paths : List Place) → range_leaves (flat_map path_ranges paths) ≡ leaves_in paths
paths_leaves [] = refl
paths_leaves (path ∷ paths) =
    let sum = leaves_joined (path_ranges path) (flat_map path_ranges paths) in
    let first = prefix_leaves (at_root path.root) path.parts in
    let later = paths_leaves paths in
    let text = leaves_in_more path paths in
    omega arith

item_leaves : (variable : Option (List ℕ)) (place : Place) → range_leaves (from_item_ranges variable place) ≡ leaves_of (trees_of place.parts)
item_leaves None place = prefix_leaves (at_root place.root) place.parts
item_leaves (Some variable) place =
    let one = leaves_more (record { start = at_root place.root; parts = place.parts; place = at_root (ranged variable) }) [] in omega arith

from_leaves : (scope : Scope) (items : List FromTree) → range_leaves (from_ranges scope items) ≡ leaves_in (from_places scope items)
from_leaves scope [] = refl
from_leaves scope (item ∷ items) =
    let place = place_of scope item.path in
    let sum = leaves_joined (from_item_ranges item.variable place) (from_ranges (scope_behind item.variable scope) items) in
    let first = item_leaves item.variable place in
    let later = from_leaves (scope_behind item.variable scope) items in
    let text = leaves_in_more place (from_places (scope_behind item.variable scope) items) in
    omega arith

-- fused ranges have no more leaves than the paths of from items and items
pub fused_leaves : (query : SelectTree) (plain fused : List PlacedRange) → ArePlain query plain → AreFused (IsUsed query plain) plain fused
    → range_leaves fused + leaves_in (cond_places query) ≤ leaves_in (text_places query)
fused_leaves query plain fused gathered are =
    let from = from_places [] query.tail.ranges in
    let fusing = FusesTimes-leaves (IsUsed query plain) are.times plain fused are.steps in
    let gathering = gathered_leaves [] (made_ranges query) plain gathered in
    let made = leaves_joined (from_ranges [] query.tail.ranges) (flat_map path_ranges (cell_places query)) in
    let of_from = from_leaves [] query.tail.ranges in
    let of_items = paths_leaves (cell_places query) in
    let text = leaves_in_joined from (cell_places query ++ cond_places query) in
    let text_behind = leaves_in_joined (cell_places query) (cond_places query) in
    omega arith

-- the rest of a path has no more leaves than the path
pub rest_leaves : (ranges : List PlacedRange) (path fixed : Place) (rest : List PathTree) → IsFixed ranges path fixed rest
    → leaves_of (trees_of rest) ≤ leaves_of (trees_of path.parts)
rest_leaves ranges path fixed rest is =
    let whole = ap (λ (p : Place). leaves_of (trees_of p.parts)) is.is ∙ leaves_append fixed.parts rest in
    omega arith
