-- Fusing: what it leaves is determined and can be had in one pass, in order, with each used range.
use Rattle.std.proofs.Common.{◌≡◌, ◌≢◌, ℕ, zero, suc, ◌+◌, inl, inr, false, cond, List, [], ◌∷◌, ◌++◌, length, All, subst, refl, sym, ap, ◌∙◌, append_assoc, arith, get_or}
use Rattle.std.specs.List.{Contains}
use Rattle.std.proofs.lemmas.Bool.{cases_Bool, cases_eq, both_ways, false_from_ne_true}
use Rattle.std.proofs.lemmas.List.{append-nil, map-append, length-append}
use Rattle.std.proofs.lemmas.List.Elements.{All-nil, All-cons, All-head, All-tail, All-push, All-contains, Contains-append_left, Contains-append_right, Contains-append_cases}
use Rattle.std.proofs.lemmas.List.Sums.{sum_by-cons, sum_by-append}
use Rattle.lore_base.proofs.MemberLaws.{Contains-cases}
use Rattle.lorel_ranges.specs.Places.{Place}
use Rattle.lorel_ranges.specs.Ranges.{PlacedRange, places, joined_range, IsUsed, IsOnlyStart, IsFusable, Fuses, FusesTimes, AreFused}
use Rattle.lorel_ranges.specs.Laws.{HasOneFused}
use Rattle.lorel_ranges.specs.inside.Equality.{same_place}
use Rattle.lorel_ranges.specs.inside.Orders.{AreOrdered}
use Rattle.lorel_ranges.specs.inside.Fusing.{start_count, IsHalfFused}
use Rattle.lore_base.proofs.ToldLaws.{IsTold}
use Rattle.lorel_ranges.proofs.ListLaws.{Contains-between, All-parts, same_only, same_first}
use Rattle.lorel_ranges.proofs.PlaceLaws.{same_place-Decides}
use Rattle.lorel_ranges.proofs.OrderLaws.{own_start, starts_before, placed_once, AreOrdered-joined}

-- ---- how many ranges start at a place
pub count_one : (place : Place) (range : PlacedRange) (others : List PlacedRange) → range.start ≡ place
    → start_count place (range ∷ others) ≡ suc (start_count place others)
count_one place range others starts =
    let here = (same_place-Decides range.start place).1 starts in
    let sum = sum_by-cons (λ (r : PlacedRange). cond (same_place r.start place) 1 0) range others in
    sum ∙ rw here (omega arith)

pub count_none : (place : Place) (range : PlacedRange) (others : List PlacedRange) → range.start ≢ place
    → start_count place (range ∷ others) ≡ start_count place others
count_none place range others apart =
    let elsewhere : same_place range.start place ≡ false = false_from_ne_true (same_place range.start place) (λ same. apart ((same_place-Decides range.start place).0 same)) in
    let sum = sum_by-cons (λ (r : PlacedRange). cond (same_place r.start place) 1 0) range others in
    sum ∙ rw elsewhere (omega arith)

pub count_append : (place : Place) (front back : List PlacedRange) → start_count place (front ++ back) ≡ start_count place front + start_count place back
count_append place front back = sum_by-append (λ (r : PlacedRange). cond (same_place r.start place) 1 0) front back

-- none of them starts there
pub zero_from_none : (place : Place) (ranges : List PlacedRange) → All (λ r. r.start ≢ place) ranges → start_count place ranges ≡ 0
zero_from_none place [] none = refl
zero_from_none place (range ∷ others) none =
    count_none place range others (All-head (λ r. r.start ≢ place) range others none)
    ∙ zero_from_none place others (All-tail (λ r. r.start ≢ place) range others none)

pub none_from_zero : (place : Place) (ranges : List PlacedRange) → start_count place ranges ≡ 0 → All (λ r. r.start ≢ place) ranges
none_from_zero place [] none = All-nil (λ r. r.start ≢ place)
none_from_zero place (range ∷ others) none =
    let apart : range.start ≢ place = λ same. (let one = count_one place range others same in omega arith) in
    let rest = count_none place range others apart in
    All-cons (λ r. r.start ≢ place) range others apart (none_from_zero place others (sym rest ∙ none))

-- exactly one of them does
pub once_from_split : (place : Place) (before : List PlacedRange) (other : PlacedRange) (after : List PlacedRange) → IsOnlyStart place before other after
    → start_count place (before ++ other ∷ after) ≡ 1
once_from_split place before other after only =
    let sum = count_append place before (other ∷ after) in
    let first = zero_from_none place before only.none_before in
    let one = count_one place other after only.starts in
    let last = zero_from_none place after only.none_after in
    omega arith

pub split_from_once : (place : Place) (ranges : List PlacedRange) → start_count place ranges ≡ 1
    → (before : List PlacedRange) × (other : PlacedRange) × (after : List PlacedRange) × (ranges ≡ before ++ other ∷ after) × IsOnlyStart place before other after
split_from_once place [] once = absurd (omega arith)
split_from_once place (range ∷ others) once = elim (cases_Bool (same_place range.start place)) [
  | inl same ↦
      let starts = (same_place-Decides range.start place).0 same in
      let one = count_one place range others starts in
      let none : start_count place others ≡ 0 = omega arith in (
        [],
        range,
        others,
        refl,
        record {
          starts = starts;
          none_before = All-nil (λ r. r.start ≢ place);
          none_after = none_from_zero place others none;
        },
      )
  | inr elsewhere ↦
      let apart : range.start ≢ place = λ same. both_ways (same_place range.start place) elsewhere ((same_place-Decides range.start place).1 same) in
      let later = split_from_once place others (sym (count_none place range others apart) ∙ once) in (
        range ∷ later.0,
        later.1,
        later.2,
        ap (λ (rs : List PlacedRange). range ∷ rs) later.3,
        record {
          starts = later.4.starts;
          none_before = All-cons (λ r. r.start ≢ place) range later.0 apart later.4.none_before;
          none_after = later.4.none_after;
        },
      )
]

-- ---- what can be fused
pub fusable_once : (Used : Place → Type 0) (ranges : List PlacedRange) (range : PlacedRange) → IsFusable Used ranges range → start_count range.place ranges ≡ 1
fusable_once Used ranges range fusable =
    ap (start_count range.place) fusable.is ∙ once_from_split range.place fusable.before fusable.other fusable.after fusable.only

pub once_fusable : (Used : Place → Type 0) (ranges : List PlacedRange) (range : PlacedRange) → (Used range.place → ⊥) → start_count range.place ranges ≡ 1
    → IsFusable Used ranges range
once_fusable Used ranges range unused once =
    let split = split_from_once range.place ranges once in
    record { unused = unused; before = split.0; other = split.1; after = split.2; is = split.3; only = split.4 }

-- no other range starts at the one that is fused
pub only_joined : (Used : Place → Type 0) (old new : List PlacedRange) (fused : Fuses Used old new)
    → All (λ r. r.start ≢ fused.range.place) (fused.front ++ fused.range ∷ fused.middle) × All (λ r. r.start ≢ fused.range.place) fused.back
only_joined Used old new fused =
    let f = fused.fusable in
    let parts : (fused.front ++ fused.range ∷ fused.middle) ++ fused.other ∷ fused.back ≡ fused.front ++ fused.range ∷ (fused.middle ++ fused.other ∷ fused.back) =
    append_assoc fused.front (fused.range ∷ fused.middle) (fused.other ∷ fused.back) in
    let same = same_only (λ (r : PlacedRange). r.start ≡ fused.range.place) f.before f.after (fused.front ++ fused.range ∷ fused.middle) fused.back f.other fused.other
    (sym f.is ∙ fused.was ∙ sym parts) f.only.starts fused.starts f.only.none_before f.only.none_after in (
      subst (λ (rs : List PlacedRange). All (λ r. r.start ≢ fused.range.place) rs) same.0 f.only.none_before,
      subst (λ (rs : List PlacedRange). All (λ r. r.start ≢ fused.range.place) rs) same.2 f.only.none_after,
    )

pub only_middle : (Used : Place → Type 0) (old new : List PlacedRange) (fused : Fuses Used old new) → All (λ r. r.start ≢ fused.range.place) fused.middle
only_middle Used old new fused =
    All-tail (λ r. r.start ≢ fused.range.place) fused.range fused.middle
    (All-parts (λ r. r.start ≢ fused.range.place) fused.front (fused.range ∷ fused.middle) (only_joined Used old new fused).0).1

-- ---- what is left is determined
fuses_one : (Used : Place → Type 0) (old new other : List PlacedRange) → Fuses Used old new → Fuses Used old other → new ≡ other
fuses_one Used old new other f g =
    let same = same_first (λ (r : PlacedRange). IsFusable Used old r) f.front (f.middle ++ f.other ∷ f.back) g.front (g.middle ++ g.other ∷ g.back) f.range g.range
    (sym f.was ∙ g.was) f.fusable g.fusable f.first g.first in
    let place : f.range.place ≡ g.range.place = ap (λ (r : PlacedRange). r.place) same.1 in
    let rest = same_only (λ (r : PlacedRange). r.start ≡ f.range.place) f.middle f.back g.middle g.back f.other g.other same.2 f.starts (g.starts ∙ sym place)
    (only_middle Used old new f) (only_joined Used old new f).1 in
    f.is ∙ parts_same f g same.0 same.1 rest.0 rest.1 rest.2 ∙ sym g.is
  where
    parts_same : (f : Fuses Used old new) (g : Fuses Used old other) → f.front ≡ g.front → f.range ≡ g.range → f.middle ≡ g.middle
        → f.other ≡ g.other → f.back ≡ g.back
        → f.front ++ (f.middle ++ joined_range f.range f.other ∷ f.back) ≡ g.front ++ (g.middle ++ joined_range g.range g.other ∷ g.back)
    parts_same f g front range middle other back = λ i. front i ++ (middle i ++ joined_range (range i) (other i) ∷ back i)

none_fuses : (Used : Place → Type 0) (old new : List PlacedRange) → All (λ r. IsFusable Used old r → ⊥) old → Fuses Used old new → ⊥
none_fuses Used old new none f =
    All-contains (λ r. IsFusable Used old r → ⊥) old f.range none
    (subst (λ (rs : List PlacedRange). Contains rs f.range) (sym f.was) (Contains-between f.front f.range (f.middle ++ f.other ∷ f.back))) f.fusable

one_fused : (Used : Place → Type 0) (times others : ℕ) (old new other : List PlacedRange) → FusesTimes Used times old new
    → All (λ r. IsFusable Used new r → ⊥) new → FusesTimes Used others old other → All (λ r. IsFusable Used other r → ⊥) other → new ≡ other
one_fused Used zero zero old new other here none there nothing = sym here ∙ there
one_fused Used zero (suc others) old new other here none there nothing =
    absurd (none_fuses Used old there.0 (subst (λ (rs : List PlacedRange). All (λ r. IsFusable Used rs r → ⊥) rs) (sym here) none) there.1)
one_fused Used (suc times) zero old new other here none there nothing =
    absurd (none_fuses Used old here.0 (subst (λ (rs : List PlacedRange). All (λ r. IsFusable Used rs r → ⊥) rs) (sym there) nothing) here.1)
one_fused Used (suc times) (suc others) old new other here none there nothing =
    let same = fuses_one Used old here.0 there.0 here.1 there.1 in
    one_fused Used times others here.0 new other here.2 none
    (subst (λ (rs : List PlacedRange). FusesTimes Used others rs other) (sym same) there.2) nothing

pub has_one_fused : HasOneFused
has_one_fused query plain fused other are here there =
    one_fused (IsUsed query plain) here.times there.times plain fused other here.steps here.none there.steps there.none

-- ---- one fusing
pub Fuses-ordered : (Used : Place → Type 0) (old new : List PlacedRange) → Fuses Used old new → AreOrdered [] old → AreOrdered [] new
Fuses-ordered Used old new f ordered =
    subst (λ (rs : List PlacedRange). AreOrdered [] rs) (sym f.is)
    (AreOrdered-joined [] f.front f.range f.middle f.other f.back (only_middle Used old new f) (only_joined Used old new f).1
    (subst (λ (rs : List PlacedRange). AreOrdered [] rs) f.was ordered))

pub FusesTimes-ordered : (Used : Place → Type 0) (times : ℕ) (old new : List PlacedRange) → FusesTimes Used times old new → AreOrdered [] old → AreOrdered [] new
FusesTimes-ordered Used zero old new steps ordered = subst (λ (rs : List PlacedRange). AreOrdered [] rs) steps ordered
FusesTimes-ordered Used (suc times) old new steps ordered =
    FusesTimes-ordered Used times steps.0 new steps.2 (Fuses-ordered Used old steps.0 steps.1 ordered)

FusesTimes-push : (Used : Place → Type 0) (times : ℕ) (old middle new : List PlacedRange) → FusesTimes Used times old middle → Fuses Used middle new
    → FusesTimes Used (suc times) old new
FusesTimes-push Used zero old middle new steps last = (new, subst (λ (rs : List PlacedRange). Fuses Used rs new) (sym steps) last, refl)
FusesTimes-push Used (suc times) old middle new steps last = (steps.0, steps.1, FusesTimes-push Used times steps.0 middle new steps.2 last)

-- ---- in one pass
pub half_fused_start : (Used : Place → Type 0) (plain : List PlacedRange) → AreOrdered [] plain → IsHalfFused Used plain [] plain
half_fused_start Used plain ordered =
    record { times = 0; steps = refl; ordered = ordered; settled = All-nil (λ r. IsFusable Used plain r → ⊥) }

pub half_fused_done : (Used : Place → Type 0) (plain kept : List PlacedRange) → IsHalfFused Used plain kept [] → AreFused Used plain kept
half_fused_done Used plain kept half = record {
  times = half.times;
  steps = subst (λ (rs : List PlacedRange). FusesTimes Used half.times plain rs) (append-nil kept) half.steps;
  none = subst (λ (rs : List PlacedRange). All (λ r. IsFusable Used rs r → ⊥) kept) (append-nil kept) half.settled;
}

-- of those that are kept and left as many start at the first that is left as of those behind it
count_behind : (kept : List PlacedRange) (range : PlacedRange) (left : List PlacedRange) → AreOrdered [] (kept ++ range ∷ left)
    → start_count range.place (kept ++ range ∷ left) ≡ start_count range.place left
count_behind kept range left ordered =
    let sum = count_append range.place kept (range ∷ left) in
    let before = zero_from_none range.place kept (starts_before [] kept range left ordered) in
    let own = count_none range.place range left (own_start [] kept range left ordered) in
    omega arith

-- a range that can't be fused with what is left is kept
pub half_fused_keep : (Used : Place → Type 0) (plain kept : List PlacedRange) (range : PlacedRange) (left : List PlacedRange)
    → IsHalfFused Used plain kept (range ∷ left) → (IsFusable Used left range → ⊥) → IsHalfFused Used plain (kept ++ range ∷ []) left
half_fused_keep Used plain kept range left half alone =
    let same : kept ++ range ∷ left ≡ (kept ++ range ∷ []) ++ left = sym (append_assoc kept (range ∷ []) left) in
    let own : IsFusable Used (kept ++ range ∷ left) range → ⊥ = λ fusable. alone (once_fusable Used left range fusable.unused
    (sym (count_behind kept range left half.ordered) ∙ fusable_once Used (kept ++ range ∷ left) range fusable)) in
    record {
      times = half.times;
      steps = subst (λ (rs : List PlacedRange). FusesTimes Used half.times plain rs) same half.steps;
      ordered = subst (λ (rs : List PlacedRange). AreOrdered [] rs) same half.ordered;
      settled = subst (λ (rs : List PlacedRange). All (λ r. IsFusable Used rs r → ⊥) (kept ++ range ∷ [])) same
          (All-push (λ r. IsFusable Used (kept ++ range ∷ left) r → ⊥) kept range half.settled own);
    }

-- joining two ranges leaves as many starts at each other place
count_joined : (place : Place) (front : List PlacedRange) (range : PlacedRange) (middle : List PlacedRange) (other : PlacedRange) (back : List PlacedRange)
    → other.start ≡ range.place → place ≢ range.place
    → start_count place (front ++ (middle ++ joined_range range other ∷ back)) ≡ start_count place (front ++ range ∷ (middle ++ other ∷ back))
count_joined place front range middle other back starts apart =
    let elsewhere : other.start ≢ place = λ same. apart (sym same ∙ starts) in
    let was = count_append place front (range ∷ (middle ++ other ∷ back)) in
    let was_middle = count_append place middle (other ∷ back) in
    let was_other = count_none place other back elsewhere in
    let is = count_append place front (middle ++ joined_range range other ∷ back) in
    let is_middle = count_append place middle (joined_range range other ∷ back) in
    elim (cases_Bool (same_place range.start place)) [
      | inl same ↦
          let here = (same_place-Decides range.start place).0 same in
          let one = count_one place range (middle ++ other ∷ back) here in
          let other_one = count_one place (joined_range range other) back here in
          omega arith
      | inr different ↦
          let away : range.start ≢ place = λ same. both_ways (same_place range.start place) different ((same_place-Decides range.start place).1 same) in
          let none = count_none place range (middle ++ other ∷ back) away in
          let other_none = count_none place (joined_range range other) back away in
          omega arith
    ]

-- the first range that is left, where it isn't used, joins the only later one that starts at it
pub half_fused_join : (Used : Place → Type 0) (plain kept : List PlacedRange) (range : PlacedRange) (middle : List PlacedRange) (other : PlacedRange) (back : List PlacedRange)
    → IsHalfFused Used plain kept (range ∷ (middle ++ other ∷ back)) → (Used range.place → ⊥) → IsOnlyStart range.place middle other back
    → IsHalfFused Used plain kept (middle ++ joined_range range other ∷ back)
half_fused_join Used plain kept range middle other back half unused only =
    let old = kept ++ range ∷ (middle ++ other ∷ back) in
    let new = kept ++ (middle ++ joined_range range other ∷ back) in
    let once : start_count range.place old ≡ 1 =
    count_behind kept range (middle ++ other ∷ back) half.ordered ∙ once_from_split range.place middle other back only in
    let fuses : Fuses Used old new = record {
      front = kept;
      range = range;
      middle = middle;
      other = other;
      back = back;
      was = refl;
      is = refl;
      fusable = once_fusable Used old range unused once;
      starts = only.starts;
      first = half.settled;
    } in
    record {
      times = suc half.times;
      steps = FusesTimes-push Used half.times plain old new half.steps fuses;
      ordered = Fuses-ordered Used old new fuses half.ordered;
      settled = still_settled kept (placed_once [] kept range (middle ++ other ∷ back) half.ordered).0 half.settled;
    }
  where
    still : (first : PlacedRange) → first.place ≢ range.place → (IsFusable Used (kept ++ range ∷ (middle ++ other ∷ back)) first → ⊥)
        → IsFusable Used (kept ++ (middle ++ joined_range range other ∷ back)) first → ⊥
    still first apart before fusable =
        before (once_fusable Used (kept ++ range ∷ (middle ++ other ∷ back)) first fusable.unused
        (sym (count_joined first.place kept range middle other back only.starts apart)
        ∙ fusable_once Used (kept ++ (middle ++ joined_range range other ∷ back)) first fusable))

    still_settled : (some : List PlacedRange) → All (λ r. r.place ≢ range.place) some
        → All (λ r. IsFusable Used (kept ++ range ∷ (middle ++ other ∷ back)) r → ⊥) some
        → All (λ r. IsFusable Used (kept ++ (middle ++ joined_range range other ∷ back)) r → ⊥) some
    still_settled some apart settled k d lt = still (get_or some k d) (apart k d lt) (settled k d lt)

-- whether a range can be fused can be told, so ranges in order can be fused
half_fused_on : (Used : Place → Type 0) → ((place : Place) → IsTold (Used place)) → (count : ℕ) (plain kept left : List PlacedRange) → length left ≡ count
    → IsHalfFused Used plain kept left → (fused : List PlacedRange) × AreFused Used plain fused
half_fused_on Used told count plain kept [] long half = (kept, half_fused_done Used plain kept half)
half_fused_on Used told zero plain kept (range ∷ left) long half = absurd (omega arith)
half_fused_on Used told (suc count) plain kept (range ∷ left) long half = elim (told range.place) [
  | inl used ↦ half_fused_on Used told count plain (kept ++ range ∷ []) left (omega arith)
      (half_fused_keep Used plain kept range left half (λ fusable. fusable.unused used))
  | inr unused ↦ elim (cases_eq (start_count range.place left) 1) [
    | inl once ↦
        let split = split_from_once range.place left once in
        let was : length left ≡ length split.0 + suc (length split.2) = ap length split.3 ∙ length-append split.0 (split.1 ∷ split.2) in
        let is : length (split.0 ++ joined_range range split.1 ∷ split.2) ≡ length split.0 + suc (length split.2) = length-append split.0 (joined_range range split.1 ∷ split.2) in
        half_fused_on Used told count plain kept (split.0 ++ joined_range range split.1 ∷ split.2) (omega arith)
        (half_fused_join Used plain kept range split.0 split.1 split.2
        (subst (λ (rs : List PlacedRange). IsHalfFused Used plain kept (range ∷ rs)) split.3 half) unused split.4)
    | inr apart ↦ half_fused_on Used told count plain (kept ++ range ∷ []) left (omega arith)
        (half_fused_keep Used plain kept range left half (λ fusable. apart (fusable_once Used left range fusable)))
  ]
]

pub some_fused : (Used : Place → Type 0) → ((place : Place) → IsTold (Used place)) → (plain : List PlacedRange) → AreOrdered [] plain
    → (fused : List PlacedRange) × AreFused Used plain fused
some_fused Used told plain ordered = half_fused_on Used told (length plain) plain [] plain refl (half_fused_start Used plain ordered)

-- ---- used ranges stay
other_places_stay : (front : List Place) (place : Place) (back : List Place) (kept : Place) → kept ≢ place → Contains (front ++ place ∷ back) kept
    → Contains (front ++ back) kept
other_places_stay front place back kept apart at = elim (Contains-append_cases front (place ∷ back) kept at) [
  | inl before ↦ Contains-append_left front back kept before
  | inr behind ↦ elim (Contains-cases place back kept behind) [
    | inl same ↦ absurd (apart (sym same))
    | inr later ↦ Contains-append_right front back kept later
  ]
]

Fuses-places : (Used : Place → Type 0) (old new : List PlacedRange) (f : Fuses Used old new) (place : Place) → place ≢ f.range.place
    → Contains (places old) place → Contains (places new) place
Fuses-places Used old new f place apart at =
    let at_place = λ (r : PlacedRange). r.place in
    let behind = λ (r : PlacedRange). map-append at_place f.middle (r ∷ f.back) in
    let was : places old ≡ places f.front ++ f.range.place ∷ places (f.middle ++ f.other ∷ f.back) =
    ap places f.was ∙ map-append at_place f.front (f.range ∷ (f.middle ++ f.other ∷ f.back)) in
    let is : places new ≡ places f.front ++ places (f.middle ++ joined_range f.range f.other ∷ f.back) =
    ap places f.is ∙ map-append at_place f.front (f.middle ++ joined_range f.range f.other ∷ f.back) in
    let same : places (f.middle ++ f.other ∷ f.back) ≡ places (f.middle ++ joined_range f.range f.other ∷ f.back) =
    behind f.other ∙ sym (behind (joined_range f.range f.other)) in
    subst (λ (ps : List Place). Contains ps place) (ap (λ (ps : List Place). places f.front ++ ps) same ∙ sym is)
    (other_places_stay (places f.front) f.range.place (places (f.middle ++ f.other ∷ f.back)) place apart
    (subst (λ (ps : List Place). Contains ps place) was at))

FusesTimes-used : (Used : Place → Type 0) (times : ℕ) (old new : List PlacedRange) (place : Place) → Used place → FusesTimes Used times old new
    → Contains (places old) place → Contains (places new) place
FusesTimes-used Used zero old new place used steps at = subst (λ (rs : List PlacedRange). Contains (places rs) place) steps at
FusesTimes-used Used (suc times) old new place used steps at =
    FusesTimes-used Used times steps.0 new place used steps.2
    (Fuses-places Used old steps.0 steps.1 place (λ same. steps.1.fusable.unused (subst Used same used)) at)

-- a place that is used and has a range has one still after fusing
pub used_stays : (Used : Place → Type 0) (plain fused : List PlacedRange) (place : Place) → Used place → AreFused Used plain fused
    → Contains (places plain) place → Contains (places fused) place
used_stays Used plain fused place used are at = FusesTimes-used Used are.times plain fused place used are.steps at

-- fused ranges are in order: each starts at a name or at an earlier one
pub fused_ordered : (Used : Place → Type 0) (plain fused : List PlacedRange) → AreOrdered [] plain → AreFused Used plain fused → AreOrdered [] fused
fused_ordered Used plain fused ordered are = FusesTimes-ordered Used are.times plain fused are.steps ordered
