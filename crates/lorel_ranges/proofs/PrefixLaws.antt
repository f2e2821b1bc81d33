-- The longest prefix of a path that is a range: there is one, and whether a place is used can be told.
use Rattle.std.proofs.Common.{◌≡◌, ℕ, suc, ◌+◌, ◌<◌, ◌≤◌, ◌⊎◌, inl, inr, List, [], ◌∷◌, ◌++◌, length, take, drop, subst, refl, sym, ap, ◌∙◌, append_assoc, arith, length-append}
use Rattle.std.specs.List.{Contains}
use Rattle.std.proofs.lemmas.List.{append-nil, take_at, take-append-drop, length-take-le}
use Rattle.lore_base.specs.Paths.{PathTree}
use Rattle.lore_base.proofs.MemberLaws.{Contains-none, Contains-head, Contains-tail, Contains-cases, Contains-same}
use Rattle.lorel_trees.specs.Trees.{SelectTree}
use Rattle.lorel_ranges.specs.Places.{Place, at_root, beyond, cell_places}
use Rattle.lorel_ranges.specs.Conditions.{cond_places}
use Rattle.lorel_ranges.specs.Ranges.{PlacedRange, places, IsFixed, IsUsed}
use Rattle.lorel_ranges.specs.Laws.{HasSomeFused}
use Rattle.lorel_ranges.specs.Views.{prefix_of}
use Rattle.lore_base.proofs.ToldLaws.{IsTold, told_either, told_member}
use Rattle.lorel_bound.proofs.ListedLaws.{IsListed, listed_one, listed_same}
use Rattle.lorel_ranges.proofs.ListLaws.{two_fronts}
use Rattle.lorel_ranges.proofs.PlaceLaws.{place_from, told_place}
use Rattle.lorel_ranges.proofs.PlainLaws.{plain_ordered}
use Rattle.lorel_ranges.proofs.FuseLaws.{some_fused}
use Rattle.lorel_ranges.proofs.ShownLaws.{told_needed}

nothing_more : (parts more : List PathTree) → parts ++ more ≡ [] → more ≡ []
nothing_more [] more same = same
nothing_more (part ∷ parts) more same = absurd cc

-- ---- one longest prefix
-- a fixed prefix that is longer by some parts is longer by none
none_longer : (ranges : List PlacedRange) (path fixed other : Place) (rest last more : List PathTree) → IsFixed ranges path fixed rest
    → IsFixed ranges path other last → other.parts ≡ fixed.parts ++ more → rest ≡ more ++ last → more ≡ []
none_longer ranges path fixed other rest last more here there longer split = elim there.stands [
  | inl root ↦ nothing_more fixed.parts more (sym longer ∙ ap (λ (p : Place). p.parts) root)
  | inr at ↦ here.longest more last split (Contains-same (places ranges) other (beyond fixed more) (place_from other (beyond fixed more)
      (sym (ap (λ (p : Place). p.root) there.is) ∙ ap (λ (p : Place). p.root) here.is) longer) at)
]

same_fixed : (ranges : List PlacedRange) (path fixed other : Place) (rest last more : List PathTree) → IsFixed ranges path fixed rest
    → IsFixed ranges path other last → other.parts ≡ fixed.parts ++ more → rest ≡ more ++ last → (fixed ≡ other) × (rest ≡ last)
same_fixed ranges path fixed other rest last more here there longer split =
    let none = none_longer ranges path fixed other rest last more here there longer split in
    let parts : other.parts ≡ fixed.parts = longer ∙ ap (λ (ps : List PathTree). fixed.parts ++ ps) none ∙ append-nil fixed.parts in
    let root : fixed.root ≡ other.root = sym (ap (λ (p : Place). p.root) here.is) ∙ ap (λ (p : Place). p.root) there.is in
    (place_from fixed other root (sym parts), split ∙ ap (λ (ps : List PathTree). ps ++ last) none)

pub one_fixed : (ranges : List PlacedRange) (path fixed other : Place) (rest last : List PathTree) → IsFixed ranges path fixed rest
    → IsFixed ranges path other last → (fixed ≡ other) × (rest ≡ last)
one_fixed ranges path fixed other rest last here there =
    let parts : fixed.parts ++ rest ≡ other.parts ++ last = sym (ap (λ (p : Place). p.parts) here.is) ∙ ap (λ (p : Place). p.parts) there.is in
    elim (two_fronts fixed.parts rest other.parts last parts) [
      | inl h ↦ same_fixed ranges path fixed other rest last h.0 here there h.1 h.2
      | inr h ↦ (let same = same_fixed ranges path other fixed last rest h.0 there here h.1 h.2 in (sym same.0, sym same.1))
    ]

-- ---- some longest prefix
-- the longest way on from a place by these parts to that of a range
record IsFurthest (ranges : List PlacedRange) (place : Place) (parts further rest : List PathTree) : Type 0 where
  is : parts ≡ further ++ rest
  stands : Contains (places ranges) (beyond place further)
  longest : (more others : List PathTree) → rest ≡ more ++ others → Contains (places ranges) (beyond (beyond place further) more) → more ≡ []

abbrev HasNone : List PlacedRange → Place → List PathTree → Type 0
HasNone ranges place parts = (further others : List PathTree) → parts ≡ further ++ others → Contains (places ranges) (beyond place further) → ⊥

beyond_none : (place : Place) → beyond place [] ≡ place
beyond_none place = place_from (beyond place []) place refl (append-nil place.parts)

beyond_beyond : (place : Place) (first second : List PathTree) → beyond (beyond place first) second ≡ beyond place (first ++ second)
beyond_beyond place first second =
    place_from (beyond (beyond place first) second) (beyond place (first ++ second)) refl (append_assoc place.parts first second)

-- no range is further on by one part and more
none_through : (ranges : List PlacedRange) (place : Place) (part : PathTree) (parts further others : List PathTree)
    → HasNone ranges (beyond place (part ∷ [])) parts → part ∷ parts ≡ further ++ others → Contains (places ranges) (beyond place further)
    → further ≡ []
none_through ranges place part parts [] others none split at = refl
none_through ranges place part parts (first ∷ further) others none split at =
    let same : first ∷ further ≡ part ∷ further = cc in
    let rest : parts ≡ further ++ others = cc in
    absurd (none further others rest (Contains-same (places ranges) (beyond place (first ∷ further)) (beyond (beyond place (part ∷ [])) further)
    (ap (λ (ps : List PathTree). beyond place ps) same ∙ sym (beyond_beyond place (part ∷ []) further)) at))

furthest : (ranges : List PlacedRange) (place : Place) (parts : List PathTree)
    → ((further : List PathTree) × (rest : List PathTree) × IsFurthest ranges place parts further rest) ⊎ HasNone ranges place parts
furthest ranges place [] = elim (told_member told_place (places ranges) (beyond place [])) [
  | inl here ↦ inl ([], [], record { is = refl; stands = here; longest = λ more others split at. nothing_left more others split })
  | inr nowhere ↦ inr (λ further others split at. nowhere (subst (λ (ps : List PathTree). Contains (places ranges) (beyond place ps))
      (nothing_left further others split) at))
]
  where
    nothing_left : (more others : List PathTree) → [] ≡ more ++ others → more ≡ []
    nothing_left [] others split = refl
    nothing_left (part ∷ more) others split = absurd cc
furthest ranges place (part ∷ parts) = elim (furthest ranges (beyond place (part ∷ [])) parts) [
  | inl later ↦ inl (
    part ∷ later.0,
    later.1,
    (let on = beyond_beyond place (part ∷ []) later.0 in record {
      is = ap (λ (ps : List PathTree). part ∷ ps) later.2.is;
      stands = subst (λ (p : Place). Contains (places ranges) p) on later.2.stands;
      longest = λ more others split at. later.2.longest more others split
          (subst (λ (p : Place). Contains (places ranges) (beyond p more)) (sym on) at);
    }),
  )
  | inr none ↦ elim (told_member told_place (places ranges) (beyond place [])) [
    | inl here ↦ inl (
      [],
      part ∷ parts,
      record {
        is = refl;
        stands = here;
        longest = λ more others split at. none_through ranges place part parts more others none split
            (subst (λ (p : Place). Contains (places ranges) (beyond p more)) (beyond_none place) at);
      },
    )
    | inr nowhere ↦ inr (λ further others split at. nowhere (subst (λ (ps : List PathTree). Contains (places ranges) (beyond place ps))
        (none_through ranges place part parts further others none split at) at))
  ]
]

pub some_fixed : (ranges : List PlacedRange) (path : Place) → (fixed : Place) × (rest : List PathTree) × IsFixed ranges path fixed rest
some_fixed ranges path = elim (furthest ranges (at_root path.root) path.parts) [
  | inl far ↦ (
    beyond (at_root path.root) far.0,
    far.1,
    record {
      is = place_from path (beyond (beyond (at_root path.root) far.0) far.1) refl far.2.is;
      stands = inr far.2.stands;
      longest = far.2.longest;
    },
  )
  | inr none ↦ (
    at_root path.root,
    path.parts,
    record {
      is = refl;
      stands = inl refl;
      longest = λ further others split at. absurd (none further others split at);
    },
  )
]

-- a prefix of a path, and what is behind it
abbrev pub Prefix : Type 0
Prefix = Place × List PathTree

-- the prefix that a path is fixed at, with what is behind it, is one
pub listed_fixed : (ranges : List PlacedRange) (path : Place) → IsListed (λ (prefix : Prefix). IsFixed ranges path prefix.0 prefix.1)
listed_fixed ranges path =
    let some = some_fixed ranges path in
    let own : Prefix = (some.0, some.1) in
    listed_same (λ (prefix : Prefix). own ≡ prefix) (λ (prefix : Prefix). IsFixed ranges path prefix.0 prefix.1)
    (λ prefix. (
      λ same. subst (λ (p : Prefix). IsFixed ranges path p.0 p.1) same some.2,
      λ is_fixed. (let one = one_fixed ranges path some.0 prefix.0 some.1 prefix.1 some.2 is_fixed in λ i. (one.0 i, one.1 i)),
    ))
    (listed_one own)

-- ---- whether a place is used
told_fixed : (ranges : List PlacedRange) (paths : List Place) (place : Place)
    → IsTold ((path : Place) × (rest : List PathTree) × Contains paths path × IsFixed ranges path place rest)
told_fixed ranges [] place = inr (λ h. Contains-none h.0 h.2)
told_fixed ranges (path ∷ paths) place =
    let some = some_fixed ranges path in
    elim (told_place some.0 place) [
      | inl same ↦ inl (path, some.1, Contains-head path paths, subst (λ (p : Place). IsFixed ranges path p some.1) same some.2)
      | inr apart ↦ elim (told_fixed ranges paths place) [
        | inl later ↦ inl (later.0, later.1, Contains-tail path paths later.0 later.2, later.3)
        | inr never ↦ inr (λ h. elim (Contains-cases path paths h.0 h.2) [
          | inl first ↦ apart (one_fixed ranges path some.0 place some.1 h.1 some.2
              (subst (λ (p : Place). IsFixed ranges p place h.1) (sym first) h.3)).0
          | inr later ↦ never (h.0, h.1, later, h.3)
        ])
      ]
    ]

pub told_used : (query : SelectTree) (ranges : List PlacedRange) (place : Place) → IsTold (IsUsed query ranges place)
told_used query ranges place =
    told_either (told_member told_place (cell_places query) place)
    (told_either (told_needed query ranges place) (told_fixed ranges (cond_places query) place))

pub has_some_fused : HasSomeFused
has_some_fused query plain gathered = some_fused (IsUsed query plain) (told_used query plain) plain (plain_ordered query plain gathered)

-- ---- by length
-- a prefix of so many parts is fixed where it is a range, or none, and no longer one is a range
pub fixed_at : (ranges : List PlacedRange) (path : Place) (len : ℕ) → (len ≡ 0) ⊎ Contains (places ranges) (prefix_of len path)
    → ((longer : ℕ) → len < longer → longer ≤ length path.parts → Contains (places ranges) (prefix_of longer path) → ⊥)
    → len ≤ length path.parts → IsFixed ranges path (prefix_of len path) (drop len path.parts)
fixed_at ranges path len stands none within = record {
  is = place_from path (beyond (prefix_of len path) (drop len path.parts)) refl (sym (take-append-drop len path.parts));
  stands = elim stands [
    | inl zero_parts ↦ inl (place_from (prefix_of len path) (at_root path.root) refl (ap (λ (n : ℕ). take n path.parts) zero_parts))
    | inr there ↦ inr there
  ];
  longest = longest;
}
  where
    longest : (further others : List PathTree) → drop len path.parts ≡ further ++ others → Contains (places ranges) (beyond (prefix_of len path) further)
        → further ≡ []
    longest [] others split there = refl
    longest (part ∷ further) others split there =
        let more : ℕ = suc (length further) in
        let whole : path.parts ≡ (take len path.parts ++ part ∷ further) ++ others =
        sym (take-append-drop len path.parts) ∙ ap (λ (ps : List PathTree). take len path.parts ++ ps) split
        ∙ sym (append_assoc (take len path.parts) (part ∷ further) others) in
        let front : length (take len path.parts) ≡ len = length-take-le len path.parts within in
        let long = length-append (take len path.parts) (part ∷ further) in
        let all = ap length whole ∙ length-append (take len path.parts ++ part ∷ further) others in
        let same : take (len + more) path.parts ≡ take len path.parts ++ part ∷ further =
        ap (take (len + more)) whole ∙ take_at (take len path.parts ++ part ∷ further) others (len + more) (omega arith) in
        absurd (none (len + more) (omega arith) (omega arith)
        (subst (λ (ps : List PathTree). Contains (places ranges) (record { root = path.root; parts = ps })) (sym same) there))
