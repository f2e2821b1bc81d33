-- Rows over two valid databases in which a select sees the same: each row over the one is a row over the other.
use Rattle.std.proofs.Common.{◌≡◌, ℕ, ◌⊎◌, inl, inr, List, [], ◌∷◌, ◌++◌, Option, Some, None, All, refl, sym, ap, subst, ◌∙◌, append_assoc}
use Rattle.std.specs.Prelude.{unwrap_or}
use Rattle.std.specs.List.{Contains, AllZip}
use Rattle.std.proofs.lemmas.List.Elements.{All-nil, All-head, All-tail, All-contains, All-weaker, Contains-append_left}
use Rattle.lorel_bind.specs.Types.{Oid, Label, Cell}
use Rattle.lorel_bind.specs.Types.cells
use Rattle.lore_base.specs.Names.{object_of}
use Rattle.lore_base.specs.Databases.{Database, IsLive, IsValid}
use Rattle.lore_base.specs.Comparisons.{Compares}
use Rattle.lore_base.specs.Paths.{PathTree, seq, trees_of}
use Rattle.lore_base.specs.LeastWords.{IsLeast, IsSpelledWalk}
use Rattle.lorel_trees.specs.Trees.{SelectTree}
use Rattle.lorel_ranges.specs.Places.{Root, named, ranged, quantified, Place, at_root, CellPlace, object, word, cells_of}
use Rattle.lorel_bound.specs.Conditions.{CondOf, paths_in}
use Rattle.lorel_ranges.specs.Conditions.{cond_of, cond_places}
use Rattle.lorel_ranges.specs.Texts.{text_places}
use Rattle.lorel_ranges.specs.Ranges.{PlacedRange, places, ArePlain, IsFixed}
use Rattle.lorel_ranges.specs.inside.Orders.{IsOpen, IsFound, AreOrdered}
use Rattle.lorel_bind.specs.Answers.{Leads, IsValuation, IsObjectOf, IsReachedBy, HasValue, HoldsAt, ShowsCell, IsRowOver}
use Rattle.live_views.specs.Concerns.{IsStart, ComparesValues}
use Rattle.lore_base.proofs.MemberLaws.{Contains-none, Contains-head, Contains-tail, Contains-cases}
use Rattle.list_laws.proofs.MemberLaws.{Contains-map, All-from_members}
use Rattle.list_laws.proofs.PlaceLaws.{Contains-from_place}
use Rattle.lorel_ranges.proofs.OrderLaws.{IsFound-wider, open_places}
use Rattle.lorel_ranges.proofs.PlainLaws.{plain_ordered, cell_found}
use Rattle.lorel_bind.proofs.RootLaws.{IsBoundName, IsKnown, plain_roots, cond_known}
use Rattle.lorel_ranges.proofs.ShownLaws.{object_shown}
use Rattle.view_laws.proofs.SeesLaws.{IsPiece, Sees}
use Rattle.view_laws.proofs.LiveLaws.{led_live, found_live, places_live}
use Rattle.view_laws.proofs.PieceLaws.{plain_pieces, cond_in_text, cell_in_text, rest_piece}
use Rattle.view_laws.proofs.HoldLaws.{compared_select, holds_alike}

-- ---- a valuation over other names
-- the object of a bound name, and else the own one
abbrev settled_at : List (List ℕ × Oid) → Oid → Root → List PathTree → Oid
settled_at names own (named name) [] = unwrap_or (object_of names name) own
settled_at names own (named name) (part ∷ parts) = own
settled_at names own (ranged variable) parts = own
settled_at names own (quantified depth) parts = own

abbrev pub settled : List (List ℕ × Oid) → (Place → Oid) → Place → Oid
settled names at place = settled_at names (at place) place.root place.parts

settled_open : (names : List (List ℕ × Oid)) (own : Oid) (root : Root) (parts : List PathTree)
    → ((name : List ℕ) → root ≡ named name → parts ≡ [] → ⊥) → own ≡ settled_at names own root parts
settled_open names own (named name) [] none = absurd (none name refl refl)
settled_open names own (named name) (part ∷ parts) none = refl
settled_open names own (ranged variable) parts none = refl
settled_open names own (quantified depth) parts none = refl

open_among : (ranges : List PlacedRange) → All (λ range. IsOpen range.place) ranges → (place : Place) → Contains (places ranges) place → IsOpen place
open_among [] all place there = absurd (Contains-none place there)
open_among (range ∷ ranges) all place there = elim (Contains-cases range.place (places ranges) place there) [
  | inl same ↦ subst IsOpen same (All-head (λ (r : PlacedRange). IsOpen r.place) range ranges all)
  | inr later ↦ open_among ranges (All-tail (λ (r : PlacedRange). IsOpen r.place) range ranges all) place later
]

-- a range starts at a name, or at the place of another one
ordered_start : (earlier : List Place) (ranges : List PlacedRange) → AreOrdered earlier ranges → (range : PlacedRange) → Contains ranges range
    → IsFound (earlier ++ places ranges) range.start
ordered_start earlier [] ordered range there = absurd (Contains-none range there)
ordered_start earlier (first ∷ others) ordered range there =
    let all = places (first ∷ others) in
    elim (Contains-cases first others range there) [
      | inl same ↦ subst (λ (r : PlacedRange). IsFound (earlier ++ all) r.start) same
          (IsFound-wider earlier (earlier ++ all) first.start (λ place before. Contains-append_left earlier all place before) ordered.0.found)
      | inr later ↦ subst (λ (found : List Place). IsFound found range.start) (append_assoc earlier (first.place ∷ []) (places others))
          (ordered_start (earlier ++ first.place ∷ []) others ordered.1 range later)
    ]

-- ---- what paths of the condition reach, one way
-- an object is live in both
abbrev Stays : Database → Database → Oid → Type 0
Stays from to oid = IsLive from.graph.objects oid × IsLive to.graph.objects oid

-- the place is a quantifier's, or its object is the same and stays
abbrev IsSettled : Database → Database → (Place → Oid) → (Place → Oid) → Place → Type 0
IsSettled from to at other place =
    ((depth : ℕ) × (place.root ≡ quantified depth)) ⊎ ((at place ≡ other place) × Stays from to (at place))

module _ (from to : Database) where
  object_over : (objects : List Oid) → All (Stays from to) objects → (valued own : Oid) (root : Root) (start : Oid)
      → ((depth : ℕ) × (root ≡ quantified depth)) ⊎ ((valued ≡ own) × Stays from to valued)
      → IsObjectOf valued objects root start → IsObjectOf own objects root start × Stays from to start
  object_over objects stay valued own (quantified depth) start kind h =
      (h, All-contains (Stays from to) objects start stay (Contains-from_place objects depth start h))
  object_over objects stay valued own (named name) start (inl q) h = let same : named name ≡ quantified q.0 = q.1 in cc
  object_over objects stay valued own (named name) start (inr k) h = (sym k.0 ∙ h, subst (Stays from to) h k.1)
  object_over objects stay valued own (ranged variable) start (inl q) h = let same : ranged variable ≡ quantified q.0 = q.1 in cc
  object_over objects stay valued own (ranged variable) start (inr k) h = (sym k.0 ∙ h, subst (Stays from to) h k.1)

  module _ (from_valid : IsValid from) (to_valid : IsValid to) (query : SelectTree) (sees : Sees query from to) (plain : List PlacedRange) where
    led : (parts : List PathTree) → IsPiece query parts → (x y : Oid) → Leads from parts x y → Leads to parts x y
    led parts piece x y h = let walk = sees.walks parts piece x y h.0 (h.1, h.2) in (h.0, walk.0, walk.1)

    reach_over : (at other : Place → Oid) (objects : List Oid) → All (Stays from to) objects → (path : Place) → Contains (cond_places query) path
        → ((fixed : Place) (rest : List PathTree) → IsFixed plain path fixed rest → IsSettled from to at other fixed)
        → (oid : Oid) → IsReachedBy from plain at objects path oid → IsReachedBy to plain other objects path oid × Stays from to oid
    reach_over at other objects stay path there kind oid h =
        let start = object_over objects stay (at h.fixed) (other h.fixed) h.fixed.root h.start (kind h.fixed h.rest h.is_fixed) h.begins in
        let goes_on = led h.rest (rest_piece query plain path h.fixed h.rest there h.is_fixed) h.start oid h.leads in (
          record { fixed = h.fixed; rest = h.rest; is_fixed = h.is_fixed; start = h.start; begins = start.0; leads = goes_on },
          (led_live from from_valid h.rest h.start oid h.leads start.1.0, led_live to to_valid h.rest h.start oid goes_on start.1.1),
        )

-- ---- a row over the one database is a row over the other
module _ (from to : Database) (from_valid : IsValid from) (to_valid : IsValid to) (query : SelectTree)
    (sees : Sees query from to) (back : Sees query to from)
    (bound : All (λ place. IsBoundName from.graph.names place.root) (text_places query)) where
  -- a name that paths start at, which is bound
  abbrev IsMeant : Root → Type 0
  IsMeant root = (name : List ℕ) → root ≡ named name → IsStart query name × ((oid : Oid) × (object_of from.graph.names name ≡ Some oid))

  meant_at : (place : Place) → Contains (text_places query) place → IsMeant place.root
  meant_at place there name is =
      ((place, there, is), All-contains (λ (p : Place). IsBoundName from.graph.names p.root) (text_places query) place bound there name is)

  meant_bound : (root : Root) → IsMeant root → IsBoundName to.graph.names root
  meant_bound root meant name is = let own = meant name is in (own.1.0, sees.names name own.1.0 own.0 own.1.1)

  pub bound_over : All (λ place. IsBoundName to.graph.names place.root) (text_places query)
  bound_over = All-from_members (λ (place : Place). IsBoundName to.graph.names place.root) (text_places query)
      (λ place there. meant_bound place.root (meant_at place there))

  module _ (plain : List PlacedRange) (gathered : ArePlain query plain) (at : Place → Oid) (valuation : IsValuation from plain at) where
    abbrev other : Place → Oid
    other = settled to.graph.names at

    ordered : AreOrdered [] plain
    ordered = plain_ordered query plain gathered

    named_over : (name : List ℕ) (oid : Oid) → object_of to.graph.names name ≡ Some oid → other (at_root (named name)) ≡ oid
    named_over name oid is = ap (λ (found : Option Oid). unwrap_or found (at (at_root (named name)))) is

    place_same : (place : Place) → Contains (places plain) place → at place ≡ other place
    place_same place there =
        let is_open = open_among plain (open_places [] plain ordered) place there in
        settled_open to.graph.names (at place) place.root place.parts
        (λ name root parts. is_open.unnamed (name, λ i. record { root = root i; parts = parts i }))

    found_same : (place : Place) → IsFound (places plain) place → IsMeant place.root → at place ≡ other place
    found_same place (inr there) meant = place_same place there
    found_same place (inl found) meant =
        let own = meant found.0 (ap (λ (p : Place). p.root) found.1) in
        ap at found.1 ∙ valuation.named found.0 own.1.0 own.1.1
        ∙ sym (named_over found.0 own.1.0 (sees.names found.0 own.1.0 own.0 own.1.1)) ∙ ap other (sym found.1)

    starts_meant : All (λ range. IsMeant range.start.root) plain
    starts_meant = plain_roots IsMeant query plain gathered (All-from_members (λ (place : Place). IsMeant place.root) (text_places query) meant_at)

    start_same : (range : PlacedRange) → Contains plain range → at range.start ≡ other range.start
    start_same range there =
        found_same range.start (ordered_start [] plain ordered range there) (All-contains (λ (r : PlacedRange). IsMeant r.start.root) plain range starts_meant there)

    end_same : (range : PlacedRange) → Contains plain range → at range.place ≡ other range.place
    end_same range there = place_same range.place (Contains-map (λ (r : PlacedRange). r.place) plain range there)

    range_piece : (range : PlacedRange) → Contains plain range → IsPiece query range.parts
    range_piece range there = All-contains (λ (r : PlacedRange). IsPiece query r.parts) plain range (plain_pieces query plain gathered) there

    reached_over : All (λ range. Leads to range.parts (other range.start) (other range.place)) plain
    reached_over = All-from_members (λ (range : PlacedRange). Leads to range.parts (other range.start) (other range.place)) plain (λ range there.
        let leads = led from to from_valid to_valid query sees plain range.parts (range_piece range there) (at range.start) (at range.place)
        (All-contains (λ (r : PlacedRange). Leads from r.parts (at r.start) (at r.place)) plain range valuation.reached there) in
        subst (λ (end : Oid). Leads to range.parts (other range.start) end) (end_same range there)
        (subst (λ (start : Oid). Leads to range.parts start (at range.place)) (start_same range there) leads))

    valuation_over : IsValuation to plain other
    valuation_over = record { named = named_over; reached = reached_over }

    -- ---- what is live
    live_from : (place : Place) → Contains (places plain) place → IsLive from.graph.objects (at place)
    live_from = places_live from from_valid at valuation.named plain ordered (plain_roots (IsBoundName from.graph.names) query plain gathered bound) valuation.reached

    live_to : (place : Place) → Contains (places plain) place → IsLive to.graph.objects (other place)
    live_to = places_live to to_valid other named_over plain ordered (plain_roots (IsBoundName to.graph.names) query plain gathered bound_over) reached_over

    found_stays : (place : Place) → IsFound (places plain) place → IsMeant place.root → Stays from to (at place)
    found_stays place found meant = (
      found_live from from_valid at valuation.named (places plain) place found (λ name is. (meant name is).1) live_from,
      subst (IsLive to.graph.objects) (sym (found_same place found meant))
          (found_live to to_valid other named_over (places plain) place found (meant_bound place.root meant) live_to),
    )

    -- ---- the condition
    known_is_found : (place : Place) → IsKnown from.graph.names (places plain) place → IsFound (places plain) place
    known_is_found place (inl known) = inl (known.0, known.2)
    known_is_found place (inr there) = inr there

    settled_there : (fixed : Place) → IsFound (places plain) fixed → IsMeant fixed.root → IsSettled from to at other fixed
    settled_there fixed found meant = inr (found_same fixed found meant, found_stays fixed found meant)

    fixed_settled : (path : Place) → Contains (cond_places query) path → (fixed : Place) (rest : List PathTree) → IsFixed plain path fixed rest
        → IsSettled from to at other fixed
    fixed_settled path there fixed rest is_fixed =
        let root : path.root ≡ fixed.root = ap (λ (p : Place). p.root) is_fixed.is in
        let meant = subst IsMeant root (meant_at path (cond_in_text query path there)) in
        elim is_fixed.stands [
          | inr among ↦ settled_there fixed (inr among) meant
          | inl first ↦ elim (cond_known from.graph.names query plain gathered bound path there) [
            | inl at_quantifier ↦ inl (at_quantifier.0, sym root ∙ at_quantifier.1)
            | inr known ↦ settled_there fixed (subst (IsFound (places plain)) (sym first) (known_is_found (at_root path.root) known)) meant
          ]
        ]

    settled_back : (fixed : Place) → IsSettled from to at other fixed → IsSettled to from other at fixed
    settled_back fixed (inl at_quantifier) = inl at_quantifier
    settled_back fixed (inr h) = inr (sym h.0, (subst (IsLive to.graph.objects) h.0 h.1.1, subst (IsLive from.graph.objects) h.0 h.1.0))

    stays_back : (objects : List Oid) → All (Stays from to) objects → All (Stays to from) objects
    stays_back objects stay = All-weaker (Stays from to) (Stays to from) (λ oid both. (both.1, both.0)) objects stay

    reach_alike : (objects : List Oid) → All (Stays from to) objects → (path : Place) → Contains (cond_places query) path → (oid : Oid)
        → (IsReachedBy from plain at objects path oid → IsReachedBy to plain other objects path oid × Stays from to oid)
        × (IsReachedBy to plain other objects path oid → IsReachedBy from plain at objects path oid × Stays from to oid)
    reach_alike objects stay path there oid = (
      λ h. reach_over from to from_valid to_valid query sees plain at other objects stay path there (fixed_settled path there) oid h,
      λ h. (let met = reach_over to from to_valid from_valid query back plain other at objects (stays_back objects stay) path there
          (λ fixed rest is_fixed. settled_back fixed (fixed_settled path there fixed rest is_fixed)) oid h in
          (met.0, (met.1.1, met.1.0))),
    )

    holds_over : (condition : Option (CondOf Place)) → cond_of query ≡ condition → HoldsAt from plain at condition → HoldsAt to plain other condition
    holds_over None is holds = tt
    holds_over (Some condition) is holds =
        (holds_alike (IsReachedBy from plain at) (IsReachedBy to plain other) (HasValue from) (HasValue to) Compares (Stays from to)
        (Contains (cond_places query)) (ComparesValues query) reach_alike
        (λ c oid stay value. (λ h. sees.values c oid value stay.1 h, λ h. back.values c oid value stay.0 h))
        condition (λ path there. subst (λ (c : Option (CondOf Place)). Contains (paths_in c) path) (sym is) there) (compared_select query condition is)
        [] (All-nil (Stays from to))).0 holds

    -- ---- the cells
    least_over : (parts : List PathTree) → IsPiece query parts → (x y : Oid) (labels : List Label)
        → IsLeast (IsSpelledWalk from.labels from.graph.edges (seq (trees_of parts)) x y) labels
        → IsLeast (IsSpelledWalk to.labels to.graph.edges (seq (trees_of parts)) x y) labels
    least_over parts piece x y labels h = record {
      passes = sees.walks parts piece x y labels h.passes;
      least = λ other_word passes. h.least other_word (back.walks parts piece x y other_word passes);
    }

    cell_over : (place : CellPlace) (shown : Cell) → Contains (cells_of query) place → ShowsCell from plain at place shown → ShowsCell to plain other place shown
    cell_over (object place) (cells.Object oid) there h =
        let own = object_shown query place there in
        sym (found_same place (cell_found query plain gathered place own) (meant_at place (cell_in_text query place own))) ∙ h
    cell_over (word place) (cells.Path labels) there h =
        let walks = λ (x y : Oid). IsSpelledWalk to.labels to.graph.edges (seq (trees_of h.range.parts)) x y in
        let least = least_over h.range.parts (range_piece h.range h.there) (at h.range.start) (at place) labels h.least in
        let end : at place ≡ other place = subst (λ (p : Place). at p ≡ other p) h.is (end_same h.range h.there) in
        record {
          range = h.range;
          there = h.there;
          is = h.is;
          least = subst (λ (y : Oid). IsLeast (walks (other h.range.start) y) labels) end
              (subst (λ (x : Oid). IsLeast (walks x (at place)) labels) (start_same h.range h.there) least);
        }
    cell_over (object place) (cells.Path labels) there h = absurd h
    cell_over (word place) (cells.Object oid) there h = absurd h

    shown_over : (places : List CellPlace) (row : List Cell) → ((place : CellPlace) → Contains places place → Contains (cells_of query) place)
        → AllZip (ShowsCell from plain at) places row → AllZip (ShowsCell to plain other) places row
    shown_over [] [] within shown = tt
    shown_over [] (cell ∷ row) within shown = absurd shown
    shown_over (place ∷ places) [] within shown = absurd shown
    shown_over (place ∷ places) (cell ∷ row) within shown = (
      cell_over place cell (within place (Contains-head place places)) shown.0,
      shown_over places row (λ p there. within p (Contains-tail place places p there)) shown.1,
    )

  pub row_over : (plain : List PlacedRange) → ArePlain query plain → (row : List Cell) → IsRowOver from query plain plain row → IsRowOver to query plain plain row
  row_over plain gathered row h = record {
    at = settled to.graph.names h.at;
    valuation = valuation_over plain gathered h.at h.valuation;
    holds = holds_over plain gathered h.at h.valuation (cond_of query) refl h.holds;
    shown = shown_over plain gathered h.at h.valuation (cells_of query) row (λ place there. there) h.shown;
  }
