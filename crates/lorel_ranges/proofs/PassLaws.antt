-- One pass of fusing over the ranges: where it starts, a range that is kept, two that are joined, and what is left at its end.
use Rattle.std.proofs.Common.{◌≡◌, ◌≢◌, ◌↔◌, ◌⊎◌, inl, inr, ℕ, zero, suc, ◌+◌, ◌<◌, ◌≤◌, true, false, not, true≢false, cond, List, [], ◌∷◌, ◌++◌, length, get_or, set, map, Some, All, Contains, subst, refl, sym, ap, ◌∙◌, append_assoc, arith, add-one, length-append}
use Rattle.std.specs.List.{slice_get}
use Rattle.std.proofs.lemmas.List.{append-nil, map-append, length-map, get_or_at}
use Rattle.std.proofs.lemmas.List.Elements.{All-nil, All-cons, All-head, All-tail, All-append, All-weaker, filter-append, Contains-append_left, Contains-append_cases}
use Rattle.std.proofs.lemmas.Option.{same_Some, slice_get_within}
use Rattle.lore_base.proofs.MemberLaws.{Contains-none, Contains-cases}
use Rattle.lore_base.specs.Paths.{path_tree}
use Rattle.lorel_ranges.specs.Places.{Place}
use Rattle.lorel_ranges.specs.Ranges.{PlacedRange, places, joined_range, IsOnlyStart, IsFusable, AreFused}
use Rattle.lorel_ranges.specs.inside.Fusing.{start_count, IsHalfFused}
use Rattle.lorel_ranges.specs.inside.Orders.{AreOrdered}
use Rattle.lorel_ranges.specs.Views.{place_tree, range_of, ranges_of}
use Rattle.lorel_ranges.specs.inside.SelectRanges.{HasStart, IsFollowed, AreFollowed, IsMarked}
use Rattle.lorel_ranges.specs.inside.Joins.{TakesOver, IsJoined, remaining, IsPassing}
use Rattle.lorel_ranges.specs.declared.select_ranges.TextRange.{TextRange}
use Rattle.lorel_ranges.specs.declared.select_ranges.Followers.{Followers}
use Rattle.lorel_ranges.specs.declared.select_ranges.Followers.TheVariants.{None, One, Several}
use Rattle.lorel_ranges.proofs.ListLaws.{All-parts, Contains-between}
use Rattle.lorel_ranges.proofs.OrderLaws.{unfound, new_places, open_places, AreOrdered-behind, placed_once}
use Rattle.lorel_ranges.proofs.FuseLaws.{count_one, count_none, count_append, none_from_zero, fusable_once, half_fused_start, half_fused_done, half_fused_keep, half_fused_join}

-- ---- lists in two parts
-- two fronts of one list that are as long are the same
same_fronts : {X : Type 0} (xs ys zs ws : List X) → xs ++ ys ≡ zs ++ ws → length xs ≡ length zs → (xs ≡ zs) × (ys ≡ ws)
same_fronts [] ys [] ws same long = (refl, same)
same_fronts [] ys (z ∷ zs) ws same long = absurd (omega arith)
same_fronts (x ∷ xs) ys [] ws same long = absurd (omega arith)
same_fronts (x ∷ xs) ys (z ∷ zs) ws same long =
    let first : x ≡ z = cc in
    let rest : xs ++ ys ≡ zs ++ ws = cc in
    let others = same_fronts xs ys zs ws rest (omega arith) in
    ((let later = others.0 in cc), others.1)

ranges_append : (front back : List TextRange) → ranges_of (front ++ back) ≡ ranges_of front ++ ranges_of back
ranges_append front back = map-append range_of front back

slice_get-middle : {X : Type 0} (xs : List X) (y : X) (ys : List X) → slice_get (xs ++ y ∷ ys) (length xs) ≡ Some y
slice_get-middle [] y ys = refl
slice_get-middle (x ∷ xs) y ys = slice_get-middle xs y ys

-- ---- what is marked
-- each range behind some others knows whether it is used
told_behind : (front back : List TextRange) → AreOrdered [] (ranges_of (front ++ back))
    → All (λ link. (link.used ≡ true) ↔ IsMarked (front ++ back) (place_tree link.place)) back
told_behind front [] ordered = All-nil (λ link. (link.used ≡ true) ↔ IsMarked (front ++ []) (place_tree link.place))
told_behind front (link ∷ back) ordered =
    let regroup : (front ++ link ∷ []) ++ back ≡ front ++ link ∷ back = append_assoc front (link ∷ []) back in
    let once = placed_once [] (ranges_of front) (range_of link) (ranges_of back) (subst (λ (rs : List PlacedRange). AreOrdered [] rs) (ranges_append front (link ∷ back)) ordered) in
    All-cons (λ l. (l.used ≡ true) ↔ IsMarked (front ++ link ∷ back) (place_tree l.place)) link back (
      (λ used. (link, Contains-between front link back, refl, used)),
      (λ marked. by once marked.0 marked.2 marked.3 (Contains-append_cases front (link ∷ back) marked.0 marked.1)),
    )
    (subst (λ (ls : List TextRange). All (λ l. (l.used ≡ true) ↔ IsMarked ls (place_tree l.place)) back) regroup
    (told_behind (front ++ link ∷ []) back (subst (λ (ls : List TextRange). AreOrdered [] (ranges_of ls)) (sym regroup) ordered)))
  where
    elsewhere : (links : List TextRange) → All (λ r. r.place ≢ place_tree link.place) (ranges_of links) → (other : TextRange)
        → place_tree other.place ≡ place_tree link.place → Contains links other → ⊥
    elsewhere [] apart other same there = Contains-none other there
    elsewhere (first ∷ links) apart other same there = elim (Contains-cases first links other there) [
      | inl is ↦ All-head (λ r. r.place ≢ place_tree link.place) (range_of first) (ranges_of links) apart (ap (λ (l : TextRange). place_tree l.place) is ∙ same)
      | inr later ↦ elsewhere links (All-tail (λ r. r.place ≢ place_tree link.place) (range_of first) (ranges_of links) apart) other same later
    ]

    by : All (λ r. r.place ≢ place_tree link.place) (ranges_of front) × All (λ r. r.place ≢ place_tree link.place) (ranges_of back) → (other : TextRange)
        → place_tree other.place ≡ place_tree link.place → other.used ≡ true → Contains front other ⊎ Contains (link ∷ back) other → link.used ≡ true
    by once other same used (inl before) = absurd (elsewhere front once.0 other same before)
    by once other same used (inr behind) = elim (Contains-cases link back other behind) [
      | inl is ↦ ap (λ (l : TextRange). l.used) is ∙ used
      | inr later ↦ absurd (elsewhere back once.1 other same later)
    ]

pub passing_start : (plain : List TextRange) → AreFollowed 0 plain → AreOrdered [] (ranges_of plain) → IsPassing plain 0 plain
passing_start plain followed ordered = record {
  front = [];
  left = plain;
  are = refl;
  count = refl;
  half = half_fused_start (IsMarked plain) (ranges_of plain) ordered;
  followed = followed;
  told = told_behind [] plain ordered;
}

-- ---- a range that is kept
remaining_more : (front : List TextRange) (link : TextRange) → link.joined ≡ false → ranges_of (remaining (front ++ link ∷ [])) ≡ ranges_of (remaining front) ++ range_of link ∷ []
remaining_more front link unjoined =
    ap ranges_of (filter-append (λ l. not l.joined) front (link ∷ []) ∙ ap (λ b. remaining front ++ cond (not b) (link ∷ []) []) unjoined)
    ∙ ranges_append (remaining front) (link ∷ [])

remaining_gone : (front : List TextRange) (link : TextRange) → link.joined ≡ true → remaining (front ++ link ∷ []) ≡ remaining front
remaining_gone front link gone =
    filter-append (λ l. not l.joined) front (link ∷ []) ∙ ap (λ b. remaining front ++ cond (not b) (link ∷ []) []) gone ∙ append-nil (remaining front)

-- a range that is used or isn't the start of a single other can't be fused with what is behind it
alone : (Used : Place → Type 0) (first : ℕ) (link : TextRange) (behind : List PlacedRange) (followers : Followers) → link.followers ≡ followers
    → IsFollowed first behind (place_tree link.place) followers → ((later : ℕ) → followers ≡ One later → Used (place_tree link.place))
    → IsFusable Used behind (range_of link) → ⊥
alone Used first link behind None is followed used fusable = let once = fusable_once Used behind (range_of link) fusable in absurd (omega (arith, once, followed))
alone Used first link behind (One later) is followed used fusable = fusable.unused (used later refl)
alone Used first link behind Several is followed used fusable = let once = fusable_once Used behind (range_of link) fusable in absurd (omega (arith, once, followed))

-- the range that is looked at next, and those behind it
record IsNext (plain : List TextRange) (number : ℕ) (links : List TextRange) (link : TextRange) : Type 0 where
  front : List TextRange
  rest : List TextRange
  are : links ≡ front ++ link ∷ rest
  count : number ≡ length front
  half : IsHalfFused (IsMarked plain) (ranges_of plain) (ranges_of (remaining front)) (ranges_of (link ∷ rest))
  followed : AreFollowed number (link ∷ rest)
  told : All (λ l. (l.used ≡ true) ↔ IsMarked plain (place_tree l.place)) (link ∷ rest)

next_link : (plain : List TextRange) (number : ℕ) (links : List TextRange) (link : TextRange) → IsPassing plain number links → number < length links
    → link ≡ get_or links number link → IsNext plain number links link
next_link plain number links link passing within is =
    by passing.front passing.left passing.are passing.count passing.half passing.followed passing.told
  where
    by : (front left : List TextRange) → links ≡ front ++ left → number ≡ length front
        → IsHalfFused (IsMarked plain) (ranges_of plain) (ranges_of (remaining front)) (ranges_of left) → AreFollowed number left
        → All (λ l. (l.used ≡ true) ↔ IsMarked plain (place_tree l.place)) left → IsNext plain number links link
    by front [] are count half followed told = absurd (omega (arith, within, count, ap length are, ap length (append-nil front)))
    by front (first ∷ rest) are count half followed told =
        subst (λ l. IsNext plain number links l)
        (sym (is ∙ ap (λ (ls : List TextRange). get_or ls number link) are ∙ get_or_at front first rest link number (sym count)))
        (record { front = front; rest = rest; are = are; count = count; half = half; followed = followed; told = told })

pub passing_keep : (plain : List TextRange) (number : ℕ) (links : List TextRange) (link : TextRange) → IsPassing plain number links → number < length links
    → link ≡ get_or links number link → ((later : ℕ) → link.followers ≡ One later → link.used ≡ true) → IsPassing plain (number + 1) links
passing_keep plain number links link passing within is kept =
    let next = next_link plain number links link passing within is in
    let marked = (All-head (λ l. (l.used ≡ true) ↔ IsMarked plain (place_tree l.place)) link next.rest next.told).0 in
    record {
      front = next.front ++ link ∷ [];
      left = next.rest;
      are = next.are ∙ sym (append_assoc next.front (link ∷ []) next.rest);
      count = omega (arith, next.count, length-append next.front (link ∷ []));
      half = subst (λ (rs : List PlacedRange). IsHalfFused (IsMarked plain) (ranges_of plain) rs (ranges_of next.rest)) (sym (remaining_more next.front link next.followed.0))
          (half_fused_keep (IsMarked plain) (ranges_of plain) (ranges_of (remaining next.front)) (range_of link) (ranges_of next.rest) next.half
          (alone (IsMarked plain) (suc number) link (ranges_of next.rest) link.followers refl next.followed.1 (λ later at. marked (kept later at))));
      followed = subst (λ n. AreFollowed n next.rest) (sym (add-one number)) next.followed.2;
      told = All-tail (λ l. (l.used ≡ true) ↔ IsMarked plain (place_tree l.place)) link next.rest next.told;
    }

-- the only range that follows another stands behind it
pub passing_later : (plain : List TextRange) (number : ℕ) (links : List TextRange) (link : TextRange) (later : ℕ) → IsPassing plain number links
    → number < length links → link ≡ get_or links number link → link.followers ≡ One later → (number < later) × (later < length links)
passing_later plain number links link later passing within is one =
    let next = next_link plain number links link passing within is in
    let known = subst (λ (f : Followers). IsFollowed (suc number) (ranges_of next.rest) (place_tree link.place) f) one next.followed.1 in
    let at = known.1.1 in
    let low = slice_get_within (ranges_of next.rest) known.1.0 known.1.2.0 known.1.2.1 in
    let long = length-map next.rest range_of in
    let all = ap length next.are ∙ length-append next.front (link ∷ next.rest) in
    let count = next.count in
    (omega (arith, at), omega (arith, at, low, long, all, count))

-- ---- two ranges that are joined
HasStart-restart : (front : List PlacedRange) (old new : PlacedRange) (back : List PlacedRange) (place : Place) (offset : ℕ) → old.start ≢ place
    → HasStart (front ++ old ∷ back) place offset → HasStart (front ++ new ∷ back) place offset
HasStart-restart [] old new back place zero apart h = absurd (apart (ap (λ (r : PlacedRange). r.start) (same_Some old h.0 h.1) ∙ h.2))
HasStart-restart [] old new back place (suc offset) apart h = h
HasStart-restart (first ∷ front) old new back place zero apart h = h
HasStart-restart (first ∷ front) old new back place (suc offset) apart h = HasStart-restart front old new back place offset apart h

-- a range elsewhere that starts elsewhere now is no matter
IsFollowed-restart : (first : ℕ) (front : List PlacedRange) (old new : PlacedRange) (back : List PlacedRange) (place : Place) (followers : Followers)
    → old.start ≢ place → new.start ≢ place → IsFollowed first (front ++ old ∷ back) place followers → IsFollowed first (front ++ new ∷ back) place followers
IsFollowed-restart first front old new back place followers was is = by followers
  where
    same : start_count place (front ++ old ∷ back) ≡ start_count place (front ++ new ∷ back)
    same = count_append place front (old ∷ back) ∙ ap (λ n. start_count place front + n) (count_none place old back was ∙ sym (count_none place new back is))
        ∙ sym (count_append place front (new ∷ back))

    by : (followers : Followers) → IsFollowed first (front ++ old ∷ back) place followers → IsFollowed first (front ++ new ∷ back) place followers
    by None h = sym same ∙ h
    by (One later) h = (sym same ∙ h.0, (h.1.0, h.1.1, HasStart-restart front old new back place h.1.0 was h.1.2))
    by Several h = subst (λ n. 1 < n) same h

AreFollowed-restart : (first : ℕ) (middle : List TextRange) (old new : TextRange) (back : List TextRange) → place_tree new.place ≡ place_tree old.place
    → new.joined ≡ old.joined → new.followers ≡ old.followers → All (λ r. place_tree old.start ≢ r.place) (ranges_of middle)
    → All (λ r. place_tree new.start ≢ r.place) (ranges_of middle) → AreFollowed first (middle ++ old ∷ back) → AreFollowed first (middle ++ new ∷ back)
AreFollowed-restart first [] old new back place joined followers was is h = (
  joined ∙ h.0,
  subst (λ (f : Followers). IsFollowed (suc first) (ranges_of back) (place_tree new.place) f) (sym followers)
      (subst (λ (p : Place). IsFollowed (suc first) (ranges_of back) p old.followers) (sym place) h.1),
  h.2,
)
AreFollowed-restart first (link ∷ middle) old new back place joined followers was is h = (
  h.0,
  subst (λ (rs : List PlacedRange). IsFollowed (suc first) rs (place_tree link.place) link.followers) (sym (ranges_append middle (new ∷ back)))
      (IsFollowed-restart (suc first) (ranges_of middle) (range_of old) (range_of new) (ranges_of back) (place_tree link.place) link.followers
      (All-head (λ r. place_tree old.start ≢ r.place) (range_of link) (ranges_of middle) was)
      (All-head (λ r. place_tree new.start ≢ r.place) (range_of link) (ranges_of middle) is)
      (subst (λ (rs : List PlacedRange). IsFollowed (suc first) rs (place_tree link.place) link.followers) (ranges_append middle (old ∷ back)) h.1)),
  AreFollowed-restart (suc first) middle old new back place joined followers
      (All-tail (λ r. place_tree old.start ≢ r.place) (range_of link) (ranges_of middle) was)
      (All-tail (λ r. place_tree new.start ≢ r.place) (range_of link) (ranges_of middle) is) h.2,
)

-- no range behind another has the place that the other starts at
start_apart : (earlier : List Place) (front : List PlacedRange) (range : PlacedRange) (back : List PlacedRange) → AreOrdered earlier (front ++ range ∷ back)
    → All (λ r. range.start ≢ r.place) back
start_apart earlier front range back ordered =
    let before = earlier ++ places front in
    let behind = AreOrdered-behind earlier front (range ∷ back) ordered in
    let absent = new_places (before ++ range.place ∷ []) back behind.1 in
    let are_open = open_places (before ++ range.place ∷ []) back behind.1 in
    λ k d low. unfound before range.start (get_or back k d).place behind.0.found (are_open k d low)
    (λ at. absent k d low (Contains-append_left before (range.place ∷ []) (get_or back k d).place at))

-- where one range starts at a place, at that number, no other does
only_start : (place : Place) (middle : List PlacedRange) (other : PlacedRange) (back : List PlacedRange) (offset : ℕ) → start_count place (middle ++ other ∷ back) ≡ 1
    → HasStart (middle ++ other ∷ back) place offset → offset ≡ length middle → IsOnlyStart place middle other back
only_start place middle other back offset once there at =
    let here : slice_get (middle ++ other ∷ back) offset ≡ Some other = ap (slice_get (middle ++ other ∷ back)) at ∙ slice_get-middle middle other back in
    let same = same_Some there.0 other (sym there.1 ∙ here) in
    let starts : other.start ≡ place = sym (ap (λ (r : PlacedRange). r.start) same) ∙ there.2 in
    let sum = count_append place middle (other ∷ back) in
    let one = count_one place other back starts in
    record {
      starts = starts;
      none_before = none_from_zero place middle (omega (arith, once, sum, one));
      none_after = none_from_zero place back (omega (arith, once, sum, one));
    }

-- a range that takes over is both joined
taken_range : (first second both : TextRange) → TakesOver first.start first.parts.items second both → range_of both ≡ joined_range (range_of first) (range_of second)
taken_range first second both takes =
    let start = ap place_tree takes.start_is in
    let parts = ap (map (λ part. path_tree part.now)) takes.parts_are ∙ map-append (λ part. path_tree part.now) first.parts.items second.parts.items in
    let place = ap place_tree takes.place_is in
    λ i. record { start = start i; parts = parts i; place = place i }

join_first : (plain : List TextRange) (number later : ℕ) (new front : List TextRange) (first : TextRange) (middle : List TextRange) (second : TextRange) (back : List TextRange) (gone both : TextRange)
    → new ≡ front ++ gone ∷ (middle ++ both ∷ back) → number ≡ length front → later ≡ suc number + length middle → gone.joined ≡ true
    → TakesOver first.start first.parts.items second both
    → IsHalfFused (IsMarked plain) (ranges_of plain) (ranges_of (remaining front)) (ranges_of (first ∷ (middle ++ second ∷ back)))
    → AreFollowed number (first ∷ (middle ++ second ∷ back))
    → All (λ l. (l.used ≡ true) ↔ IsMarked plain (place_tree l.place)) (first ∷ (middle ++ second ∷ back))
    → first.followers ≡ One later → first.used ≡ false → IsPassing plain (number + 1) new
join_first plain number later new front first middle second back gone both is count at is_gone takes half followed told one unused =
    let kept = ranges_of (remaining front) in
    let T = λ (l : TextRange). (l.used ≡ true) ↔ IsMarked plain (place_tree l.place) in
    let half_parts = subst (λ (rs : List PlacedRange). IsHalfFused (IsMarked plain) (ranges_of plain) kept (range_of first ∷ rs)) (ranges_append middle (second ∷ back)) half in
    let known = subst (λ (f : Followers). IsFollowed (suc number) (ranges_of (middle ++ second ∷ back)) (place_tree first.place) f) one followed.1 in
    let parts = subst (λ (rs : List PlacedRange). (start_count (place_tree first.place) rs ≡ 1) × HasStart rs (place_tree first.place) known.1.0) (ranges_append middle (second ∷ back)) (known.0, known.1.2) in
    let offset : known.1.0 ≡ length (ranges_of middle) = omega (arith, known.1.1, at, length-map middle range_of) in
    let only = only_start (place_tree first.place) (ranges_of middle) (range_of second) (ranges_of back) known.1.0 parts.0 parts.1 offset in
    let never = λ (marked : IsMarked plain (place_tree first.place)). true≢false (sym ((All-head T first (middle ++ second ∷ back) told).1 marked) ∙ unused) in
    let both_range = taken_range first second both takes in
    let apart = (placed_once [] kept (range_of first) (ranges_of middle ++ range_of second ∷ ranges_of back) half_parts.ordered).1 in
    let away = start_apart [] kept (range_of first) (ranges_of middle ++ range_of second ∷ ranges_of back) half_parts.ordered in
    let was = All-weaker (λ r. r.place ≢ place_tree first.place) (λ (r : PlacedRange). place_tree second.start ≢ r.place) (λ r other same. other (sym same ∙ only.starts)) (ranges_of middle)
    (All-parts (λ r. r.place ≢ place_tree first.place) (ranges_of middle) (range_of second ∷ ranges_of back) apart).0 in
    let now = subst (λ (p : Place). All (λ r. p ≢ r.place) (ranges_of middle)) (sym (ap place_tree takes.start_is))
    (All-parts (λ r. place_tree first.start ≢ r.place) (ranges_of middle) (range_of second ∷ ranges_of back) away).0 in
    let split = All-parts T middle (second ∷ back) (All-tail T first (middle ++ second ∷ back) told) in
    let second_told = All-head T second back split.1 in
    let place = ap place_tree takes.place_is in
    record {
      front = front ++ gone ∷ [];
      left = middle ++ both ∷ back;
      are = is ∙ sym (append_assoc front (gone ∷ []) (middle ++ both ∷ back));
      count = omega (arith, count, length-append front (gone ∷ []));
      half = subst (λ (ls : List TextRange). IsHalfFused (IsMarked plain) (ranges_of plain) (ranges_of ls) (ranges_of (middle ++ both ∷ back))) (sym (remaining_gone front gone is_gone))
          (subst (λ (rs : List PlacedRange). IsHalfFused (IsMarked plain) (ranges_of plain) kept rs)
          (ap (λ (r : PlacedRange). ranges_of middle ++ r ∷ ranges_of back) (sym both_range) ∙ sym (ranges_append middle (both ∷ back)))
          (half_fused_join (IsMarked plain) (ranges_of plain) kept (range_of first) (ranges_of middle) (range_of second) (ranges_of back) half_parts never only));
      followed = subst (λ n. AreFollowed n (middle ++ both ∷ back)) (sym (add-one number))
          (AreFollowed-restart (suc number) middle second both back place takes.joined_is takes.followers_are was now followed.2);
      told = All-append T middle (both ∷ back) split.0
          (All-cons T both back (
            (λ used. subst (IsMarked plain) (sym place) (second_told.0 (sym takes.used_is ∙ used))),
            (λ marked. takes.used_is ∙ second_told.1 (subst (IsMarked plain) place marked)),
          ) (All-tail T second back split.1));
    }

pub passing_join : (plain : List TextRange) (number later : ℕ) (links new : List TextRange) (link : TextRange) → IsPassing plain number links → number < length links
    → link ≡ get_or links number link → link.followers ≡ One later → link.used ≡ false → IsJoined number later links new → IsPassing plain (number + 1) new
passing_join plain number later links new link passing within is one unused j =
    let next = next_link plain number links link passing within is in
    let parts = same_fronts next.front (link ∷ next.rest) j.front (j.first ∷ (j.middle ++ j.second ∷ j.back)) (sym next.are ∙ j.was) (sym next.count ∙ j.first_at) in
    let first : link ≡ j.first = (let whole = parts.1 in cc) in
    join_first plain number later new j.front j.first j.middle j.second j.back j.gone j.both j.is j.first_at j.second_at j.is_gone j.takes
    (subst (λ (ls : List TextRange). IsHalfFused (IsMarked plain) (ranges_of plain) (ranges_of (remaining j.front)) (ranges_of ls)) parts.1
    (subst (λ (ls : List TextRange). IsHalfFused (IsMarked plain) (ranges_of plain) (ranges_of (remaining ls)) (ranges_of (link ∷ next.rest))) parts.0 next.half))
    (subst (λ (ls : List TextRange). AreFollowed number ls) parts.1 next.followed)
    (subst (λ (ls : List TextRange). All (λ l. (l.used ≡ true) ↔ IsMarked plain (place_tree l.place)) ls) parts.1 next.told)
    (sym (ap (λ (l : TextRange). l.followers) first) ∙ one) (sym (ap (λ (l : TextRange). l.used) first) ∙ unused)

-- as many ranges are there as before
pub joined_length : (number later : ℕ) (old new : List TextRange) → IsJoined number later old new → length new ≡ length old
joined_length number later old new j =
    let was = ap length j.was ∙ length-append j.front (j.first ∷ (j.middle ++ j.second ∷ j.back)) in
    let is = ap length j.is ∙ length-append j.front (j.gone ∷ (j.middle ++ j.both ∷ j.back)) in
    let was_behind = length-append j.middle (j.second ∷ j.back) in
    let is_behind = length-append j.middle (j.both ∷ j.back) in
    omega (arith, was, is, was_behind, is_behind)

-- ---- the end of the pass
pub passing_done : (plain : List TextRange) (number : ℕ) (links : List TextRange) → IsPassing plain number links → length links ≤ number
    → AreFused (IsMarked plain) (ranges_of plain) (ranges_of (remaining links))
passing_done plain number links passing all = by passing.front passing.left passing.are passing.count passing.half
  where
    by : (front left : List TextRange) → links ≡ front ++ left → number ≡ length front
        → IsHalfFused (IsMarked plain) (ranges_of plain) (ranges_of (remaining front)) (ranges_of left)
        → AreFused (IsMarked plain) (ranges_of plain) (ranges_of (remaining links))
    by front [] are count half =
        subst (λ (ls : List TextRange). AreFused (IsMarked plain) (ranges_of plain) (ranges_of (remaining ls))) (sym (are ∙ append-nil front))
        (half_fused_done (IsMarked plain) (ranges_of plain) (ranges_of (remaining front)) half)
    by front (link ∷ left) are count half = absurd (omega (arith, all, count, ap length are, length-append front (link ∷ left)))

-- ---- two ranges that are written
split_write : (links : List TextRange) (number : ℕ) (link new : TextRange) → number < length links → link ≡ get_or links number link
    → (front : List TextRange) × (back : List TextRange) × (links ≡ front ++ link ∷ back) × (set links number new ≡ front ++ new ∷ back) × (number ≡ length front)
split_write [] number link new within is = absurd (omega arith)
split_write (first ∷ links) zero link new within is = ([], links, ap (λ (l : TextRange). l ∷ links) (sym is), refl, refl)
split_write (first ∷ links) (suc number) link new within is =
    let later = split_write links number link new (omega arith) is in
    (first ∷ later.0, later.1, ap (λ (ls : List TextRange). first ∷ ls) later.2, ap (λ (ls : List TextRange). first ∷ ls) later.3, ap suc later.4)

pub joined_at : (links : List TextRange) (number later : ℕ) (first second gone both : TextRange) → number < later → later < length links
    → first ≡ get_or links number first → second ≡ get_or (set links number gone) later second → gone.joined ≡ true
    → TakesOver first.start first.parts.items second both → IsJoined number later links (set (set links number gone) later both)
joined_at [] number later first second gone both before within first_is second_is is_gone takes = absurd (omega arith)
joined_at (link ∷ links) number zero first second gone both before within first_is second_is is_gone takes = absurd (omega arith)
joined_at (link ∷ links) zero (suc later) first second gone both before within first_is second_is is_gone takes =
    let split = split_write links later second both (omega arith) second_is in
    record {
      front = [];
      first = first;
      middle = split.0;
      second = second;
      back = split.1;
      gone = gone;
      both = both;
      was = ap (λ (l : TextRange). l ∷ links) (sym first_is) ∙ ap (λ (ls : List TextRange). first ∷ ls) split.2;
      is = ap (λ (ls : List TextRange). gone ∷ ls) split.3;
      first_at = refl;
      second_at = omega (arith, split.4);
      is_gone = is_gone;
      takes = takes;
    }
joined_at (link ∷ links) (suc number) (suc later) first second gone both before within first_is second_is is_gone takes =
    let j = joined_at links number later first second gone both (omega arith) (omega arith) first_is second_is is_gone takes in
    record {
      front = link ∷ j.front;
      first = j.first;
      middle = j.middle;
      second = j.second;
      back = j.back;
      gone = j.gone;
      both = j.both;
      was = ap (λ (ls : List TextRange). link ∷ ls) j.was;
      is = ap (λ (ls : List TextRange). link ∷ ls) j.is;
      first_at = ap suc j.first_at;
      second_at = omega (arith, j.second_at);
      is_gone = j.is_gone;
      takes = j.takes;
    }
