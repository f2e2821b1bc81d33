-- Marks of ranges: one more place, and further ones after some; a range is marked exactly where it is used.
use Rattle.std.proofs.Common.{◌≡◌, ℕ, zero, suc, ◌+◌, ◌<◌, ◌⊎◌, inl, inr, ◌↔◌, true, false, true≢false, List, [], ◌∷◌, ◌++◌, length, get_or, set, take, map, Some, subst, refl, sym, ap, ◌∙◌, arith}
use Rattle.std.specs.List.{Contains, slice_get}
use Rattle.std.proofs.lemmas.List.{length-map, take-map}
use Rattle.std.proofs.lemmas.List.Elements.{All-contains, Contains-append_left, Contains-append_right, Contains-append_cases, Contains-push, Contains-push_cases}
use Rattle.std.specs.Option.{option_map}
use Rattle.std.proofs.lemmas.Option.{slice_get-map, slice_get-get_or, slice_get_within, slice_get_read, same_Some}
use Rattle.lore_base.specs.Paths.{PathTree}
use Rattle.lore_base.proofs.MemberLaws.{Contains-none, Contains-head, Contains-tail, Contains-cases, Contains-same}
use Rattle.list_laws.proofs.PlaceLaws.{Contains-from_place}
use Rattle.list_laws.proofs.MemberLaws.{Contains-map}
use Rattle.list_laws.proofs.PartLaws.{map_more_read}
use Rattle.lorel_trees.specs.Trees.{SelectTree}
use Rattle.lorel_ranges.specs.Places.{Place, CellPlace, object, word, cells_of}
use Rattle.lorel_ranges.specs.Ranges.{PlacedRange, places, IsFixed, IsUsed}
use Rattle.lorel_ranges.specs.Readings.{IsTextOf}
use Rattle.lorel_ranges.specs.Views.{place_tree, place_trees, shown_tree, shown_trees, range_of, ranges_of}
use Rattle.lorel_ranges.specs.inside.SelectRanges.{IsOnce, IsFollowed, AreFollowed, AreLinked, AreFresh, IsMarked, IsNeededAt, IsNeededOf, IsFixedOf, AreMarked}
use Rattle.lorel_ranges.specs.declared.select_ranges.TextRange.{TextRange}
use Rattle.lorel_ranges.specs.declared.select_ranges.SelectRanges.{SelectRanges}
use Rattle.lorel_ranges.specs.declared.select_ranges.Followers.{Followers}
use Rattle.lorel_ranges.specs.declared.places.Place as declared
use Rattle.lorel_ranges.specs.declared.text.Text.{Text}
use Rattle.lorel_ranges.specs.declared.text.Shown.{Shown}
use Rattle.lorel_ranges.proofs.PrefixLaws.{one_fixed}
use Rattle.lorel_ranges.proofs.FollowLaws.{place_at}

-- ---- one item of a list in place of another
Contains-set_cases : {X : Type 0} (xs : List X) (i : ℕ) (y z : X) → Contains (set xs i y) z → (y ≡ z) ⊎ Contains xs z
Contains-set_cases [] i y z at = absurd (Contains-none z at)
Contains-set_cases (x ∷ xs) zero y z at = elim (Contains-cases y xs z at) [
  | inl same ↦ inl same
  | inr later ↦ inr (Contains-tail x xs z later)
]
Contains-set_cases (x ∷ xs) (suc i) y z at = elim (Contains-cases x (set xs i y) z at) [
  | inl same ↦ inr (Contains-same (x ∷ xs) x z same (Contains-head x xs))
  | inr later ↦ elim (Contains-set_cases xs i y z later) [ inl same ↦ inl same | inr there ↦ inr (Contains-tail x xs z there) ]
]

Contains-set_kept : {X : Type 0} (xs : List X) (i : ℕ) (x y z : X) → x ≡ get_or xs i x → i < length xs → Contains xs z
    → (x ≡ z) ⊎ Contains (set xs i y) z
Contains-set_kept [] i x y z is within at = absurd (Contains-none z at)
Contains-set_kept (first ∷ xs) zero x y z is within at = elim (Contains-cases first xs z at) [
  | inl same ↦ inl (is ∙ same)
  | inr later ↦ inr (Contains-tail y xs z later)
]
Contains-set_kept (first ∷ xs) (suc i) x y z is within at = elim (Contains-cases first xs z at) [
  | inl same ↦ inr (Contains-same (first ∷ set xs i y) first z same (Contains-head first (set xs i y)))
  | inr later ↦ elim (Contains-set_kept xs i x y z is (omega arith) later) [
    | inl same ↦ inl same
    | inr there ↦ inr (Contains-tail first (set xs i y) z there)
  ]
]

Contains-set : {X : Type 0} (xs : List X) (i : ℕ) (y : X) → i < length xs → Contains (set xs i y) y
Contains-set [] i y within = absurd (omega arith)
Contains-set (x ∷ xs) zero y within = Contains-head y xs
Contains-set (x ∷ xs) (suc i) y within = Contains-tail x (set xs i y) y (Contains-set xs i y (omega arith))

-- ---- one range in place of another that differs in marks
ranges_set : (links : List TextRange) (i : ℕ) (link new : TextRange) → link ≡ get_or links i link → range_of new ≡ range_of link
    → ranges_of (set links i new) ≡ ranges_of links
ranges_set [] i link new is same = refl
ranges_set (first ∷ links) zero link new is same = ap (λ r. r ∷ ranges_of links) (same ∙ ap range_of is)
ranges_set (first ∷ links) (suc i) link new is same = ap (λ rs. range_of first ∷ rs) (ranges_set links i link new is same)

AreFollowed-set : (first : ℕ) (links : List TextRange) (i : ℕ) (link new : TextRange) → link ≡ get_or links i link → range_of new ≡ range_of link
    → new.followers ≡ link.followers → new.joined ≡ link.joined → AreFollowed first links → AreFollowed first (set links i new)
AreFollowed-set first [] i link new is range followers joined followed = tt
AreFollowed-set first (own ∷ links) zero link new is range followers joined followed = (
  joined ∙ ap (λ (l : TextRange). l.joined) is ∙ followed.0,
  subst (λ (p : Place). IsFollowed (suc first) (ranges_of links) p new.followers) (sym (ap (λ (r : PlacedRange). r.place) (range ∙ ap range_of is)))
      (subst (λ (f : Followers). IsFollowed (suc first) (ranges_of links) (place_tree own.place) f)
      (sym (followers ∙ ap (λ (l : TextRange). l.followers) is)) followed.1),
  followed.2,
)
AreFollowed-set first (own ∷ links) (suc i) link new is range followers joined followed = (
  followed.0,
  subst (λ (rs : List PlacedRange). IsFollowed (suc first) rs (place_tree own.place) own.followers) (sym (ranges_set links i link new is range)) followed.1,
  AreFollowed-set (suc first) links i link new is range followers joined followed.2,
)

-- ---- one more mark
-- the ranges are the same but for marks
linked_still : (old new : SelectRanges) → new.plain ≡ old.plain → ranges_of new.fused.items ≡ ranges_of old.fused.items
    → AreFollowed 0 new.fused.items → AreLinked old → AreLinked new
linked_still old new plain ranges followed all = record {
  same = ap place_trees plain ∙ all.same ∙ ap places (sym ranges);
  once = subst (λ (rs : List PlacedRange). IsOnce (places rs)) (sym ranges) all.once;
  followed = followed;
}

marked_set : (links : List TextRange) (i : ℕ) (link new : TextRange) (place other : Place) → link ≡ get_or links i link → i < length links
    → range_of new ≡ range_of link → new.used ≡ true → place_tree link.place ≡ place
    → IsMarked (set links i new) other ↔ (IsMarked links other ⊎ (other ≡ place))
marked_set links i link new place other is within range used stands = (
  λ h. elim (Contains-set_cases links i new h.0 h.1) [
    | inl same ↦ inr (sym h.2 ∙ ap (λ (l : TextRange). place_tree l.place) (sym same) ∙ own)
    | inr there ↦ inl (h.0, there, h.2, h.3)
  ],
  λ h. elim h [
    | inl before ↦ elim (Contains-set_kept links i link new before.0 is within before.1) [
      | inl same ↦ (new, Contains-set links i new within, own ∙ sym stands ∙ ap (λ (l : TextRange). place_tree l.place) same ∙ before.2, used)
      | inr there ↦ (before.0, there, before.2, before.3)
    ]
    | inr same ↦ (new, Contains-set links i new within, own ∙ sym same, used)
  ],
)
  where
    own : place_tree new.place ≡ place
    own = ap (λ (r : PlacedRange). r.place) range ∙ stands

pub marked_at : (old new : SelectRanges) (number : ℕ) (link after : TextRange) (place : Place) → AreLinked old
    → slice_get (place_trees old.plain) number ≡ Some place → link ≡ get_or old.fused.items number link
    → new.plain ≡ old.plain → new.fused.items ≡ set old.fused.items number after → range_of after ≡ range_of link
    → after.followers ≡ link.followers → after.joined ≡ link.joined → after.used ≡ true → AreMarked old new (λ other. other ≡ place)
marked_at old new number link after place all stands is plain links range followers joined used =
    let there : slice_get (places (ranges_of old.fused.items)) number ≡ Some place = ap (λ ps. slice_get ps number) (sym all.same) ∙ stands in
    let low = slice_get_within (places (ranges_of old.fused.items)) number place there in
    let long = length-map (ranges_of old.fused.items) (λ (r : PlacedRange). r.place) in
    let longer = length-map old.fused.items range_of in
    let within : number < length old.fused.items = omega arith in
    let own : place_tree link.place ≡ place = same_Some (place_tree link.place) place
    (sym (place_at old.fused.items number link (slice_get_read old.fused.items (length old.fused.items) number link refl within is)) ∙ there) in
    let ranges : ranges_of new.fused.items ≡ ranges_of old.fused.items =
    ap ranges_of links ∙ ranges_set old.fused.items number link after is range in
    let followed : AreFollowed 0 new.fused.items = subst (AreFollowed 0) (sym links)
    (AreFollowed-set 0 old.fused.items number link after is range followers joined all.followed) in
    record {
      plain = plain;
      ranges = ranges;
      linked = linked_still old new plain ranges followed all;
      marked = λ other. (let both = marked_set old.fused.items number link after place other is within range used own in (
        λ h. elim (both.0 (subst (λ ls. IsMarked ls other) links h)) [
          | inl before ↦ inl before
          | inr same ↦ inr (
            same,
            Contains-same (places (ranges_of old.fused.items)) place other (sym same)
                (Contains-from_place (places (ranges_of old.fused.items)) number place there),
          )
        ],
        λ h. subst (λ ls. IsMarked ls other) (sym links) (both.1 (elim h [ inl before ↦ inl before | inr here ↦ inr here.0 ])),
      ));
    }

-- where nothing is marked
pub marked_none : (links : SelectRanges) (Marks : Place → Type 0) → AreLinked links
    → ((place : Place) → Marks place → Contains (places (ranges_of links.fused.items)) place → ⊥) → AreMarked links links Marks
marked_none links Marks all none = record {
  plain = refl;
  ranges = refl;
  linked = all;
  marked = λ place. (λ h. inl h, λ h. elim h [ inl before ↦ before | inr mark ↦ absurd (none place mark.0 mark.1) ]);
}

-- some marks and then others
pub marked_then : (old middle new : SelectRanges) (First Second Both : Place → Type 0) → AreMarked old middle First → AreMarked middle new Second
    → ((place : Place) → Both place ↔ (First place ⊎ Second place)) → AreMarked old new Both
marked_then old middle new First Second Both first second both = record {
  plain = second.plain ∙ first.plain;
  ranges = second.ranges ∙ first.ranges;
  linked = second.linked;
  marked = λ place. (
    λ h. elim ((second.marked place).0 h) [
      | inl before ↦ elim ((first.marked place).0 before) [
        | inl earlier ↦ inl earlier
        | inr mark ↦ inr ((both place).1 (inl mark.0), mark.1)
      ]
      | inr mark ↦ inr ((both place).1 (inr mark.0), subst (λ (rs : List PlacedRange). Contains (places rs) place) first.ranges mark.1)
    ],
    λ h. (second.marked place).1 (elim h [
      | inl before ↦ inl ((first.marked place).1 (inl before))
      | inr mark ↦ elim ((both place).0 mark.0) [
        | inl early ↦ inl ((first.marked place).1 (inr (early, mark.1)))
        | inr late ↦ inr (late, subst (λ (rs : List PlacedRange). Contains (places rs) place) (sym first.ranges) mark.1)
      ]
    ]),
  );
}

-- ---- lists of places
take_read : {X Y : Type 0} (f : X → Y) (xs : List X) (i : ℕ) (x : X) → i < length xs → x ≡ get_or xs i x
    → take (i + 1) (map f xs) ≡ take i (map f xs) ++ f x ∷ []
take_read f xs i x within is =
    take-map f (i + 1) xs ∙ map_more_read f xs i x within is ∙ ap (λ ys. ys ++ f x ∷ []) (sym (take-map f i xs))

pub places_step : (all : List declared.Place) (i : ℕ) (read : declared.Place) → i < length all → read ≡ get_or all i read → (place : Place)
    → Contains (take (i + 1) (place_trees all)) place ↔ (Contains (take i (place_trees all)) place ⊎ (place ≡ place_tree read))
places_step all i read within is place =
    let more = take_read place_tree all i read within is in (
      λ at. elim (Contains-push_cases (take i (place_trees all)) (place_tree read) place (subst (λ ps. Contains ps place) more at)) [
        | inl before ↦ inl before
        | inr same ↦ inr (sym same)
      ],
      λ h. subst (λ ps. Contains ps place) (sym more) (elim h [
        | inl before ↦ Contains-append_left (take i (place_trees all)) (place_tree read ∷ []) place before
        | inr same ↦ Contains-same (take i (place_trees all) ++ place_tree read ∷ []) (place_tree read) place (sym same)
            (Contains-push (take i (place_trees all)) (place_tree read))
      ]),
    )

pub fixed_step : (ranges : List PlacedRange) (all : List declared.Place) (i : ℕ) (read : declared.Place) (fixed : Place) (rest : List PathTree)
    → i < length all → read ≡ get_or all i read → IsFixed ranges (place_tree read) fixed rest → (place : Place)
    → IsFixedOf ranges (take (i + 1) (place_trees all)) place ↔ (IsFixedOf ranges (take i (place_trees all)) place ⊎ (place ≡ fixed))
fixed_step ranges all i read fixed rest within is here place = (
  λ h. elim ((places_step all i read within is h.0).0 h.2) [
    | inl before ↦ inl (h.0, h.1, before, h.3)
    | inr same ↦ inr (sym (one_fixed ranges (place_tree read) fixed place rest h.1 here
        (subst (λ (p : Place). IsFixed ranges p place h.1) same h.3)).0)
  ],
  λ h. elim h [
    | inl before ↦ (before.0, before.1, (places_step all i read within is before.0).1 (inl before.2), before.3)
    | inr same ↦ (
      place_tree read,
      rest,
      (places_step all i read within is (place_tree read)).1 (inr refl),
      subst (λ (p : Place). IsFixed ranges (place_tree read) p rest) (sym same) here,
    )
  ],
)

-- ---- words that cells show
-- in a list where each place stands once a range is known by its place
one_range : (ranges : List PlacedRange) (number : ℕ) (own range : PlacedRange) → IsOnce (places ranges) → slice_get ranges number ≡ Some own
    → Contains ranges range → range.place ≡ own.place → range ≡ own
one_range ranges number own range once stands there same =
    let at_place = λ (r : PlacedRange). r.place in
    let here : slice_get ranges there.0 ≡ Some range =
    slice_get-get_or ranges there.0 range there.1 ∙ ap (λ (r : PlacedRange). Some r) there.2 in
    let first = slice_get-map at_place ranges there.0 ∙ ap (option_map at_place) here ∙ ap (λ (p : Place). Some p) same in
    let second = slice_get-map at_place ranges number ∙ ap (option_map at_place) stands in
    same_Some range own (sym here ∙ ap (slice_get ranges) (once there.0 number own.place first second) ∙ stands)

-- for a word its range is needed and the one that this starts at
needed_at : (ranges : List PlacedRange) (number : ℕ) (own : PlacedRange) → IsOnce (places ranges) → slice_get ranges number ≡ Some own → (place : Place)
    → IsNeededAt ranges own.place place ↔ ((place ≡ own.place) ⊎ (place ≡ own.start))
needed_at ranges number own once stands place = (
  λ h.
      let same = one_range ranges number own h.0 once stands h.1 h.2 in
      elim h.3 [
        | inl itself ↦ inl (sym itself ∙ h.2)
        | inr start ↦ inr (sym start ∙ ap (λ (r : PlacedRange). r.start) same)
      ],
  λ h. (own, Contains-from_place ranges number own stands, refl, elim h [ inl itself ↦ inl (sym itself) | inr start ↦ inr (sym start) ]),
)

pub marked_word : (old middle new : SelectRanges) (number : ℕ) (link : TextRange) (shown : Place) → AreLinked old
    → slice_get (place_trees old.plain) number ≡ Some shown → link ≡ get_or old.fused.items number link
    → AreMarked old middle (λ other. other ≡ shown) → AreMarked middle new (λ other. other ≡ place_tree link.start)
    → AreMarked old new (IsNeededAt (ranges_of old.fused.items) shown)
marked_word old middle new number link shown all stands is first second =
    let ranges = ranges_of old.fused.items in
    let there : slice_get (places ranges) number ≡ Some shown = ap (λ ps. slice_get ps number) (sym all.same) ∙ stands in
    let low = slice_get_within (places ranges) number shown there in
    let long = length-map ranges (λ (r : PlacedRange). r.place) in
    let longer = length-map old.fused.items range_of in
    let within : number < length old.fused.items = omega arith in
    let read = slice_get_read old.fused.items (length old.fused.items) number link refl within is in
    let own : place_tree link.place ≡ shown = same_Some (place_tree link.place) shown (sym (place_at old.fused.items number link read) ∙ there) in
    let here : slice_get ranges number ≡ Some (range_of link) = slice_get-map range_of old.fused.items number ∙ ap (option_map range_of) read in
    marked_then old middle new (λ other. other ≡ shown) (λ other. other ≡ place_tree link.start) (IsNeededAt ranges shown) first second
    (subst (λ (p : Place). (place : Place) → IsNeededAt ranges p place ↔ ((place ≡ p) ⊎ (place ≡ place_tree link.start))) own
    (needed_at ranges number (range_of link) all.once here))

-- a word whose place has no range needs none
pub unneeded : (ranges : List PlacedRange) (shown place : Place) → (Contains (places ranges) shown → ⊥) → IsNeededAt ranges shown place → ⊥
unneeded ranges shown place absent h =
    absent (Contains-same (places ranges) h.0.place shown h.2 (Contains-map (λ (r : PlacedRange). r.place) ranges h.0 h.1))

-- the same marks, said otherwise
marked_alike : (old new : SelectRanges) (Marks Other : Place → Type 0) → ((place : Place) → Marks place ↔ Other place) → AreMarked old new Marks
    → AreMarked old new Other
marked_alike old new Marks Other alike marked = record {
  plain = marked.plain;
  ranges = marked.ranges;
  linked = marked.linked;
  marked = λ place. (
    λ h. elim ((marked.marked place).0 h) [ inl before ↦ inl before | inr mark ↦ inr ((alike place).0 mark.0, mark.1) ],
    λ h. (marked.marked place).1 (elim h [ inl before ↦ inl before | inr mark ↦ inr ((alike place).1 mark.0, mark.1) ]),
  );
}

-- a cell that shows a word, and one that shows an object
pub marked_shown : (old new : SelectRanges) (shown : Place) → AreMarked old new (IsNeededAt (ranges_of old.fused.items) shown)
    → AreMarked old new (IsNeededOf (ranges_of old.fused.items) (word shown ∷ []))
marked_shown old new shown = marked_alike old new (IsNeededAt ranges shown) (IsNeededOf ranges (word shown ∷ [])) (λ place. (
  λ h. (shown, Contains-head (word shown) [], h),
  λ h. elim (Contains-cases (word shown) [] (word h.0) h.1) [
    | inl same ↦ (let here : shown ≡ h.0 = cc in subst (λ (p : Place). IsNeededAt ranges p place) (sym here) h.2)
    | inr none ↦ absurd (Contains-none (word h.0) none)
  ],
))
  where
    ranges : List PlacedRange
    ranges = ranges_of old.fused.items

pub wordless : (ranges : List PlacedRange) (shown place : Place) → IsNeededOf ranges (object shown ∷ []) place → ⊥
wordless ranges shown place h = elim (Contains-cases (object shown) [] (word h.0) h.1) [
  | inl same ↦ (let apart : object shown ≡ word h.0 = same in cc)
  | inr none ↦ Contains-none (word h.0) none
]

pub words_step : (ranges : List PlacedRange) (all : List Shown) (i : ℕ) (read : Shown) → i < length all → read ≡ get_or all i read → (place : Place)
    → IsNeededOf ranges (take (i + 1) (shown_trees all)) place
    ↔ (IsNeededOf ranges (take i (shown_trees all)) place ⊎ IsNeededOf ranges (shown_tree read ∷ []) place)
words_step ranges all i read within is place =
    let more = take_read shown_tree all i read within is in
    let front = take i (shown_trees all) in (
      λ h. elim (Contains-append_cases front (shown_tree read ∷ []) (word h.0) (subst (λ (cs : List CellPlace). Contains cs (word h.0)) more h.1)) [
        | inl before ↦ inl (h.0, before, h.2)
        | inr last ↦ inr (h.0, last, h.2)
      ],
      λ h. elim h [
        | inl before ↦ (
          before.0,
          subst (λ (cs : List CellPlace). Contains cs (word before.0)) (sym more)
              (Contains-append_left front (shown_tree read ∷ []) (word before.0) before.1),
          before.2,
        )
        | inr last ↦ (
          last.0,
          subst (λ (cs : List CellPlace). Contains cs (word last.0)) (sym more)
              (Contains-append_right front (shown_tree read ∷ []) (word last.0) last.1),
          last.2,
        )
      ],
    )

-- ---- used ranges
-- what the text tells of the uses of a place
used_alike : (ranges : List PlacedRange) (query : SelectTree) (text : Text) → IsTextOf query text → (place : Place)
    → ((Contains (place_trees text.items.places.items) place ⊎ IsNeededOf ranges (shown_trees text.items.cells.items) place)
    ⊎ IsFixedOf ranges (place_trees text.condition.places.items) place) ↔ IsUsed query ranges place
used_alike ranges query text is place = (
  λ h. elim h [
    | inl shown ↦ elim shown [
      | inl cell ↦ inl (subst (λ (ps : List Place). Contains ps place) is.items.places cell)
      | inr needed ↦
          let at = needed.2 in
          inr (inl (
            at.0,
            at.1,
            Contains-same (cells_of query) (word needed.0) (word at.0.place) (ap word (sym at.2))
                (subst (λ (cs : List CellPlace). Contains cs (word needed.0)) is.items.cells needed.1),
            at.3,
          ))
    ]
    | inr fixed ↦ inr (inr (fixed.0, fixed.1, subst (λ (ps : List Place). Contains ps fixed.0) is.conditions fixed.2, fixed.3))
  ],
  λ used. elim used [
    | inl cell ↦ inl (inl (subst (λ (ps : List Place). Contains ps place) (sym is.items.places) cell))
    | inr other ↦ elim other [
      | inl needed ↦ inl (inr (
        needed.0.place,
        subst (λ (cs : List CellPlace). Contains cs (word needed.0.place)) (sym is.items.cells) needed.2,
        (needed.0, needed.1, refl, needed.3),
      ))
      | inr fixed ↦ inr (fixed.0, fixed.1, subst (λ (ps : List Place). Contains ps fixed.0) (sym is.conditions) fixed.2, fixed.3)
    ]
  ],
)

-- where cells are marked, what their words need, and what paths of the condition are fixed at, exactly the used ranges are
pub marked_used : (old middle third new : SelectRanges) (query : SelectTree) (text : Text) → AreFresh old
    → AreMarked old middle (Contains (place_trees text.items.places.items))
    → AreMarked middle third (IsNeededOf (ranges_of middle.fused.items) (shown_trees text.items.cells.items))
    → AreMarked third new (IsFixedOf (ranges_of third.fused.items) (place_trees text.condition.places.items)) → IsTextOf query text
    → (place : Place) → Contains (places (ranges_of old.fused.items)) place
    → IsMarked new.fused.items place ↔ IsUsed query (ranges_of old.fused.items) place
marked_used old middle third new query text fresh cells words conditions is place at =
    let ranges = ranges_of old.fused.items in
    let shown = shown_trees text.items.cells.items in
    let paths = place_trees text.condition.places.items in
    let cell = λ (p : Place). Contains (place_trees text.items.places.items) p in
    let needed = IsNeededOf ranges shown in
    let fixed = IsFixedOf ranges paths in
    let two = marked_then old middle third cell needed (λ p. cell p ⊎ needed p) cells
    (subst (λ (rs : List PlacedRange). AreMarked middle third (IsNeededOf rs shown)) cells.ranges words) (λ p. (λ h. h, λ h. h)) in
    let all = marked_then old third new (λ p. cell p ⊎ needed p) fixed (λ p. (cell p ⊎ needed p) ⊎ fixed p) two
    (subst (λ (rs : List PlacedRange). AreMarked third new (IsFixedOf rs paths)) two.ranges conditions) (λ p. (λ h. h, λ h. h)) in
    let alike = used_alike ranges query text is place in (
      λ h. elim ((all.marked place).0 h) [
        | inl earlier ↦ absurd (true≢false (sym earlier.3 ∙ All-contains (λ (l : TextRange). l.used ≡ false) old.fused.items earlier.0 fresh.unused earlier.1))
        | inr mark ↦ alike.0 mark.0
      ],
      λ used. (all.marked place).1 (inr (alike.1 used, at)),
    )
