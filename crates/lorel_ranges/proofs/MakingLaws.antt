-- Ranges in the making: a range is put behind those that are there, and its place behind theirs.
use Rattle.std.proofs.Common.{◌≡◌, ℕ, zero, suc, ◌+◌, ◌-◌, ◌<◌, ◌≤◌, inl, inr, false, List, [], ◌∷◌, ◌++◌, length, get_or, take, drop, map, Some, None, All, subst, refl, sym, ap, ◌∙◌, arith}
use Rattle.std.specs.List.{Contains, AllZip, flat_map}
use Rattle.std.proofs.lemmas.List.{map-append, length-map, get_or-map, take-map, drop-map, drop_more}
use Rattle.std.proofs.lemmas.List.Elements.{All-push}
use Rattle.list_laws.proofs.PlaceLaws.{Contains-from_place, slice_get-push_cases}
use denote.Ref.{Bor}
use Rattle.lore_base.specs.Paths.{PathTree, path_tree}
use Rattle.lorel_trees.specs.Trees.{FromTree, SelectTree}
use Rattle.lorel_ranges.specs.Places.{Place, beyond, Scope, place_of, scope_behind, cell_places}
use Rattle.lorel_ranges.specs.Ranges.{PlacedRange, prefix_ranges, path_ranges, from_item_ranges, from_ranges, places, AreGathered, ArePlain}
use Rattle.lorel_ranges.specs.Texts.{from_places}
use Rattle.lorel_ranges.specs.Views.{place_tree, place_trees, prefix_of, range_of, ranges_of}
use Rattle.lorel_ranges.specs.inside.Indexes.{IsVariable}
use Rattle.lorel_ranges.specs.inside.SelectRanges.{IsOnce, AreFollowed, AreLinked, AreFresh, GainsFollower, ArePushed, part_range, item_ranges}
use Rattle.lorel_ranges.specs.declared.select_ranges.TextRange.{TextRange}
use Rattle.lorel_ranges.specs.declared.select_ranges.SelectRanges.{SelectRanges}
use Rattle.lorel_ranges.specs.declared.select_ranges.Followers.TheVariants as followers
use Rattle.lorel_ranges.proofs.PlaceLaws.{place_from}
use Rattle.lorel_ranges.proofs.FindLaws.{parts_unvariable, prefix_has_parts}
use Rattle.lorel_ranges.proofs.FollowLaws.{gained_ranges, gained_unused, AreFollowed-push}

-- ---- one more place
IsOnce-push : {X : Type 0} (xs : List X) (x : X) → IsOnce xs → (Contains xs x → ⊥) → IsOnce (xs ++ x ∷ [])
IsOnce-push xs x once absent i j y first second = elim (slice_get-push_cases xs x i y first) [
  | inl early ↦ elim (slice_get-push_cases xs x j y second) [
    | inl other ↦ once i j y early other
    | inr last ↦ absurd (absent (Contains-from_place xs i x (early ∙ ap Some (sym last.1))))
  ]
  | inr last ↦ elim (slice_get-push_cases xs x j y second) [
    | inl other ↦ absurd (absent (Contains-from_place xs j x (other ∙ ap Some (sym last.1))))
    | inr also ↦ last.0 ∙ sym also.0
  ]
]

-- ---- a range behind those that are there
pub pushed : (old new : SelectRanges) (links : List TextRange) (link : TextRange) (number : ℕ) → AreFresh old → number ≡ length old.fused.items
    → AllZip (GainsFollower (place_tree link.start) number) old.fused.items links
    → link.used ≡ false → link.followers ≡ followers.None → link.joined ≡ false
    → new.fused.items ≡ links ++ link ∷ [] → new.plain ≡ old.plain
    → ArePushed old new (place_tree link.start) (map (λ part. path_tree part.now) link.parts.items) (place_tree link.place)
pushed old new links link number fresh counted gains unused none unjoined all_links plain = record {
  plain = plain;
  ranges = ap ranges_of all_links ∙ map-append range_of links (link ∷ [])
      ∙ ap (λ (rs : List PlacedRange). rs ++ range_of link ∷ []) (gained_ranges (place_tree link.start) number old.fused.items links gains);
  followed = subst (λ (ls : List TextRange). AreFollowed 0 ls) (sym all_links)
      (AreFollowed-push 0 number old.fused.items links link (omega arith) gains none unjoined fresh.linked.followed);
  unused = subst (λ (ls : List TextRange). All (λ l. l.used ≡ false) ls) (sym all_links)
      (All-push (λ l. l.used ≡ false) links link (gained_unused (place_tree link.start) number old.fused.items links gains fresh.unused) unused);
}

-- and its place behind the others
pub fresh_more : (old put new : SelectRanges) (start : Place) (parts : List PathTree) (place : Place) → AreFresh old → ArePushed old put start parts place
    → (Contains (places (ranges_of old.fused.items)) place → ⊥) → place_trees new.plain ≡ place_trees put.plain ++ place ∷ [] → new.fused.items ≡ put.fused.items → AreFresh new
fresh_more old put new start parts place fresh is absent more same_links =
    let at_place = λ (r : PlacedRange). r.place in
    let all : places (ranges_of new.fused.items) ≡ places (ranges_of old.fused.items) ++ place ∷ [] =
    ap (λ ls. places (ranges_of ls)) same_links ∙ ap places is.ranges
    ∙ map-append at_place (ranges_of old.fused.items) (record { start = start; parts = parts; place = place } ∷ []) in
    record {
      linked = record {
        same = more ∙ ap (λ (ps : List Place). ps ++ place ∷ []) (ap place_trees is.plain ∙ fresh.linked.same) ∙ sym all;
        once = subst (λ (ps : List Place). IsOnce ps) (sym all) (IsOnce-push (places (ranges_of old.fused.items)) place fresh.linked.once absent);
        followed = subst (λ ls. AreFollowed 0 ls) (sym same_links) is.followed;
      };
      unused = subst (λ ls. All (λ (l : TextRange). l.used ≡ false) ls) (sym same_links) is.unused;
    }

pub map_now : {X Y : Type 0} (f : X → Y) (xs : List (Bor X)) → map (λ x. f x.now) xs ≡ map f (map (λ x. x.now) xs)
map_now f [] = refl
map_now f (x ∷ xs) = ap (λ ys. f x.now ∷ ys) (map_now f xs)

-- the range that is put behind the others, by what it is known as
pub pushed_range : (old put : SelectRanges) (start first : Place) (parts path : List PathTree) (place last : Place) → ArePushed old put start parts place
    → start ≡ first → parts ≡ path → place ≡ last
    → ranges_of put.fused.items ≡ ranges_of old.fused.items ++ record { start = first; parts = path; place = last } ∷ []
pushed_range old put start first parts path place last is same_start same_parts same_place =
    is.ranges ∙ (λ i. ranges_of old.fused.items ++ record { start = same_start i; parts = same_parts i; place = same_place i } ∷ [])

-- ---- what isn't there yet
-- a place that isn't found has no range
pub absent_place : (links : SelectRanges) (place : Place) → AreLinked links → (Contains (place_trees links.plain) place → ⊥)
    → Contains (places (ranges_of links.fused.items)) place → ⊥
absent_place links place all absent at = absent (subst (λ (ps : List Place). Contains ps place) (sym all.same) at)

pub prefix_parts : (path place : Place) (len : ℕ) → place ≡ prefix_of len path → 0 < len → len ≤ length path.parts → place.parts ≡ [] → ⊥
prefix_parts path place len is some within none =
    prefix_has_parts path.parts len some within (sym (ap (λ (p : Place). p.parts) is) ∙ none)

-- a prefix with parts that isn't found isn't there
pub absent_prefix : (all : List Place) (path place : Place) (len : ℕ) → place ≡ prefix_of len path → 0 < len → len ≤ length path.parts
    → (Contains all place → IsVariable place) → Contains all place → ⊥
absent_prefix all path place len is some within only at = parts_unvariable place (prefix_parts path place len is some within) (only at)

-- ---- what is gathered
pub gathered_append : (earlier made middle more ranges : List PlacedRange) → AreGathered earlier made middle → AreGathered middle more ranges
    → AreGathered earlier (made ++ more) ranges
gathered_append earlier [] middle more ranges first second = subst (λ (rs : List PlacedRange). AreGathered rs more ranges) first second
gathered_append earlier (range ∷ made) middle more ranges (inl there) second = inl (there.0, gathered_append earlier made middle more ranges there.1 second)
gathered_append earlier (range ∷ made) middle more ranges (inr absent) second =
    inr (absent.0, gathered_append (earlier ++ range ∷ []) made middle more ranges absent.1 second)

-- a list is what stands before a place, the item there, and what stands behind it
pub split_at : {X : Type 0} (xs : List X) (i : ℕ) → i < length xs
    → (x : X) × (drop i xs ≡ x ∷ drop (i + 1) xs) × (take (i + 1) xs ≡ take i xs ++ x ∷ [])
split_at [] i within = absurd (omega arith)
split_at (x ∷ xs) zero within = (x, refl, refl)
split_at (x ∷ xs) (suc i) within =
    let later = split_at xs i (omega arith) in
    let more : suc i + 1 ≡ suc (i + 1) = omega arith in
    (later.0, rw more later.1, rw more (ap (λ ys. x ∷ ys) later.2))

-- the parts of a path, one after another
pub path_step : (path : Place) (len : ℕ) (now new ranges : List PlacedRange) → len < length path.parts → AreGathered now (part_range path len ∷ []) new
    → AreGathered new (prefix_ranges (prefix_of (len + 1) path) (drop (len + 1) path.parts)) ranges
    → AreGathered now (prefix_ranges (prefix_of len path) (drop len path.parts)) ranges
path_step path len now new ranges within made later =
    let split = split_at path.parts len within in
    let place : prefix_of (len + 1) path ≡ beyond (prefix_of len path) (split.0 ∷ []) =
    place_from (prefix_of (len + 1) path) (beyond (prefix_of len path) (split.0 ∷ [])) refl split.2 in
    let one : take 1 (drop len path.parts) ≡ split.0 ∷ [] = ap (take 1) split.1 in
    let first : part_range path len ≡ record { start = prefix_of len path; parts = split.0 ∷ []; place = beyond (prefix_of len path) (split.0 ∷ []) } =
    (λ i. record { start = prefix_of len path; parts = one i; place = place i }) in
    subst (λ (ps : List PathTree). AreGathered now (prefix_ranges (prefix_of len path) ps) ranges) (sym split.1)
    (gathered_append now (record { start = prefix_of len path; parts = split.0 ∷ []; place = beyond (prefix_of len path) (split.0 ∷ []) } ∷ []) new
    (prefix_ranges (beyond (prefix_of len path) (split.0 ∷ [])) (drop (len + 1) path.parts)) ranges
    (subst (λ (r : PlacedRange). AreGathered now (r ∷ []) new) first made)
    (subst (λ (p : Place). AreGathered new (prefix_ranges p (drop (len + 1) path.parts)) ranges) place later))

-- the ranges of from items, by the places of their paths
pub from_items : (scope : Scope) (items : List FromTree) → from_ranges scope items ≡ item_ranges items (from_places scope items)
from_items scope [] = refl
from_items scope (item ∷ items) =
    ap (λ (rs : List PlacedRange). from_item_ranges item.variable (place_of scope item.path) ++ rs) (from_items (scope_behind item.variable scope) items)

pub from_places_length : (scope : Scope) (items : List FromTree) → length (from_places scope items) ≡ length items
from_places_length scope [] = refl
from_places_length scope (item ∷ items) = ap suc (from_places_length (scope_behind item.variable scope) items)

-- ---- lists read one by one
-- a part alone
pub part_alone : {X Y : Type 0} (f : X → Y) (xs : List X) (i : ℕ) → map f (take (i + 1 - i) (drop i xs)) ≡ take 1 (drop i (map f xs))
part_alone f xs i =
    let one : i + 1 - i ≡ 1 = omega arith in
    ap (λ n. map f (take n (drop i xs))) one ∙ sym (take-map f 1 (drop i xs)) ∙ ap (take 1) (sym (drop-map f i xs))

-- what is left of a list begins with the item that is read
pub drop_read : {X Y : Type 0} (f : X → Y) (xs : List X) (i : ℕ) (x : X) → i < length xs → x ≡ get_or xs i x
    → drop i (map f xs) ≡ f x ∷ drop (i + 1) (map f xs)
drop_read f xs i x within is =
    drop_more (map f xs) i (f x) (omega (arith, length-map xs f))
    ∙ ap (λ y. y ∷ drop (i + 1) (map f xs)) (get_or-map f xs i x (f x) within ∙ ap f (sym is))

pub paths_step : (paths : List Place) (others : List Place) (path : Place) (now new ranges : List PlacedRange) → paths ≡ path ∷ others
    → AreGathered now (path_ranges path) new → AreGathered new (flat_map path_ranges others) ranges → AreGathered now (flat_map path_ranges paths) ranges
paths_step paths others path now new ranges is made later =
    subst (λ (ps : List Place). AreGathered now (flat_map path_ranges ps) ranges) (sym is)
    (gathered_append now (path_ranges path) new (flat_map path_ranges others) ranges made later)

pub items_step : (items more : List FromTree) (item : FromTree) (paths others : List Place) (path : Place) (now new ranges : List PlacedRange)
    → items ≡ item ∷ more → paths ≡ path ∷ others → AreGathered now (from_item_ranges item.variable path) new
    → AreGathered new (item_ranges more others) ranges → AreGathered now (item_ranges items paths) ranges
items_step items more item paths others path now new ranges items_are paths_are made later =
    subst (λ (is : List FromTree). AreGathered now (item_ranges is paths) ranges) (sym items_are)
    (subst (λ (ps : List Place). AreGathered now (item_ranges (item ∷ more) ps) ranges) (sym paths_are)
    (gathered_append now (from_item_ranges item.variable path) new (item_ranges more others) ranges made later))

-- the ranges of from items and then those of items are the plain ones
pub plain_made : (query : SelectTree) (items : List FromTree) (from cells : List Place) (none middle ranges : List PlacedRange) → none ≡ []
    → items ≡ query.tail.ranges → from ≡ from_places [] query.tail.ranges → cells ≡ cell_places query
    → AreGathered none (item_ranges items from) middle → AreGathered middle (flat_map path_ranges cells) ranges → ArePlain query ranges
plain_made query items from cells none middle ranges nothing items_are from_are cells_are first second =
    let made : item_ranges items from ≡ from_ranges [] query.tail.ranges =
    (λ i. item_ranges (items_are i) (from_are i)) ∙ sym (from_items [] query.tail.ranges) in
    gathered_append [] (from_ranges [] query.tail.ranges) middle (flat_map path_ranges (cell_places query)) ranges
    (subst (λ (rs : List PlacedRange). AreGathered [] rs middle) made
    (subst (λ (rs : List PlacedRange). AreGathered rs (item_ranges items from) middle) nothing first))
    (subst (λ (ps : List Place). AreGathered middle (flat_map path_ranges ps) ranges) cells_are second)
