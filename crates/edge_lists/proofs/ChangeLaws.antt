-- The lists of both sides stay right where a record is put in, joined, parted and taken away.
use Rattle.std.proofs.Common.{◌≡◌, ◌≢◌, ℕ, ◌+◌, true, is_some, Option, Some, None, List, [], ◌∷◌, map, Contains, refl, sym, ap, ◌∙◌, inl, inr, subst, arith}
use Rattle.std.specs.Option.{IfSome, IfNone}
use Rattle.std.proofs.lemmas.Bool.{cases_eq}
use Rattle.slab.specs.Slab.{Slab, get, ContainsKey, Updates, slab_len}
use Rattle.slab.proofs.SlabLemmas.{Contains-cons, Contains-cons_cases}
use Rattle.edge_lists.specs.Types.{Oid, Edge, Side, Out, In, Way, Before, After, EdgeRecord, ObjectRecord}
use Rattle.near_links.specs.Links.{IsNearest, IsAdded, IsRemoved, AreLinked}
use Rattle.edge_lists.specs.Edges.{owner_of, Precedes}
use Rattle.edge_lists.specs.Records.{link_of, link_in, link_at, edge_in, LiesAt, SameEdges, SameLinks, HasEdge, IsPut, alone}
use Rattle.edge_lists.specs.Objects.{head_of, object_of, IsLive}
use Rattle.edge_lists.specs.Chains.{next_of, StandsAt, AreChained, IsStart, IsPlace, SameOthers, IsJoined, IsParted, IsPutOut, IsTakenOut}
use Rattle.near_links.proofs.NearLaws.{IsOrder, found}
use Rattle.near_links.proofs.LinkLaws.{joined, parted}
use Rattle.edge_lists.proofs.EdgeLaws.{side_order, same_oid}
use Rattle.edge_lists.proofs.WalkLaws.{some_same, none_some, apart, stands_once}

-- ---- the same links of the same items
nearest-same : {X : Type 0} (at now : ℕ → X → Type 0) → ((k : ℕ) (x : X) → at k x → now k x) → ((k : ℕ) (x : X) → now k x → at k x)
    → (P : X → Type 0) (R : X → X → Type 0) (link : Option ℕ) → IsNearest at P R link → IsNearest now P R link
nearest-same at now on back P R None nearest = λ key item lies. nearest key item (back key item lies)
nearest-same at now on back P R (Some link) nearest =
    (nearest.0, on link nearest.0 nearest.1, nearest.2, λ key other lies. nearest.3 key other (back key other lies))

pub linked-same : {X O : Type 0} (owner : X → O) (R : X → X → Type 0) (at now : ℕ → X → Type 0)
    → ((k : ℕ) (x : X) → at k x → now k x) → ((k : ℕ) (x : X) → now k x → at k x)
    → (after before : ℕ → Option ℕ) (first : O → Option ℕ) (after_then before_then : ℕ → Option ℕ) (first_then : O → Option ℕ)
    → ((k : ℕ) (x : X) → now k x → after_then k ≡ after k) → ((k : ℕ) (x : X) → now k x → before_then k ≡ before k) → ((o : O) → first_then o ≡ first o)
    → AreLinked owner R at after before first → AreLinked owner R now after_then before_then first_then
linked-same {X} owner R at now on back after before first after_then before_then first_then same_after same_before same_first linked = record {
  ahead = λ key item lies. subst (λ (l : Option ℕ). IsNearest now (λ y. R item y) R l) (sym (same_after key item lies))
      (nearest-same at now on back (λ y. R item y) R (after key) (linked.ahead key item (back key item lies)));
  back = λ key item lies. subst (λ (l : Option ℕ). IsNearest now (λ y. R y item) (λ a b. R b a) l) (sym (same_before key item lies))
      (nearest-same at now on back (λ y. R y item) (λ a b. R b a) (before key) (linked.back key item (back key item lies)));
  heads = λ o. subst (λ (l : Option ℕ). IsNearest now (λ y. owner y ≡ o) R l) (sym (same_first o))
      (nearest-same at now on back (λ y. owner y ≡ o) R (first o) (linked.heads o));
}

-- ---- keys with records
has_key : (slot : Option EdgeRecord) (edge : Edge) → edge_in slot ≡ Some edge → is_some slot ≡ true
has_key None edge is = absurd (none_some is)
has_key (Some r) edge is = refl

pub lies_within : (records : Slab EdgeRecord) (key : ℕ) (edge : Edge) → LiesAt records key edge → ContainsKey records key
lies_within records key edge lies = has_key (get records key) edge lies

pub contains-from : (records : Slab EdgeRecord) (waiting : List ℕ) (P : Edge → Type 0) (R : Edge → Edge → Type 0) (link : Option ℕ)
    → IsNearest (StandsAt records waiting) P R link → IfSome link (ContainsKey records)
contains-from records waiting P R None nearest = tt
contains-from records waiting P R (Some key) nearest = lies_within records key nearest.0 nearest.1.0

pub contains-same : (old new : Slab EdgeRecord) → SameEdges old new → (link : Option ℕ) → IfSome link (ContainsKey old) → IfSome link (ContainsKey new)
contains-same old new same None there = tt
contains-same old new same (Some key) there = at (get old key) (get new key) (same.edges key) there
  where
    at : (a b : Option EdgeRecord) → edge_in b ≡ edge_in a → is_some a ≡ true → is_some b ≡ true
    at None b is some = absurd (cc)
    at (Some r) b is some = has_key b r.edge is

waits : (key : ℕ) (waiting : List ℕ) → Contains (key ∷ waiting) key
waits key waiting = (0, omega arith, refl)

-- what waits doesn't stand at its key
pub apart_from : (records : Slab EdgeRecord) (key : ℕ) (waiting : List ℕ) (P : Edge → Type 0) (R : Edge → Edge → Type 0) (link : Option ℕ)
    → IsNearest (StandsAt records (key ∷ waiting)) P R link → link ≢ Some key
apart_from records key waiting P R None nearest = λ same. absurd (none_some same)
apart_from records key waiting P R (Some link) nearest = λ same.
    let here = subst (λ (n : ℕ). StandsAt records (key ∷ waiting) n nearest.0) (some_same same) nearest.1 in
    here.1 (waits key waiting)

-- ---- what follows a place is the nearest behind the edge
pub next_nearest : (side : Side) (objects : List ObjectRecord) (records : Slab EdgeRecord) (waiting : List ℕ) → AreChained side objects records waiting
    → (edge : Edge) → ((j : ℕ) (x : Edge) → StandsAt records waiting j x → x ≢ edge) → (place : Option ℕ) → IsPlace side records waiting edge place
    → IsNearest (StandsAt records waiting) (λ y. Precedes side edge y) (Precedes side) (next_of side objects records (owner_of side edge) place)
next_nearest side objects records waiting chained edge fresh None none = at (head_of side objects (owner_of side edge)) (chained.heads (owner_of side edge))
  where
    order : IsOrder (owner_of side) (Precedes side)
    order = side_order side

    at : (head : Option ℕ) → IsNearest (StandsAt records waiting) (λ y. owner_of side y ≡ owner_of side edge) (Precedes side) head
        → IsNearest (StandsAt records waiting) (λ y. Precedes side edge y) (Precedes side) head
    at None nothing = λ key item lies less. nothing key item lies (sym less.0)
    at (Some first) near = (
      near.0,
      near.1,
      elim (order.total near.0 edge near.2) [
        | inl before ↦ absurd (none first near.0 near.1 before)
        | inr others ↦ elim others [ inl equal ↦ absurd (fresh first near.0 near.1 equal) | inr behind ↦ behind ]
      ],
      λ key other lies less. near.3 key other lies (sym less.0),
    )
next_nearest side objects records waiting chained edge fresh (Some place) here = at (link_at side After records place) (chained.ahead place here.0 here.1)
  where
    order : IsOrder (owner_of side) (Precedes side)
    order = side_order side

    at : (next : Option ℕ) → IsNearest (StandsAt records waiting) (λ y. Precedes side here.0 y) (Precedes side) next
        → IsNearest (StandsAt records waiting) (λ y. Precedes side edge y) (Precedes side) next
    at None nothing = λ key item lies less. nothing key item lies (order.trans here.0 edge item here.2 less)
    at (Some next) near = (
      near.0,
      near.1,
      elim (order.total near.0 edge (sym near.2.0 ∙ here.2.0)) [
        | inl before ↦ absurd (elim (here.3 next near.0 near.1 before) [
          | inl same ↦ order.never here.0 (subst (λ (x : Edge). Precedes side here.0 x) (stands_once records waiting place near.0 here.0 (subst (λ (n : ℕ). StandsAt records waiting n near.0) same near.1) here.1) near.2)
          | inr back ↦ order.never here.0 (order.trans here.0 near.0 here.0 near.2 back)
        ])
        | inr others ↦ elim others [ inl equal ↦ absurd (fresh next near.0 near.1 equal) | inr behind ↦ behind ]
      ],
      λ key other lies less. near.3 key other lies (order.trans here.0 edge other here.2 less),
    )

-- ---- joined and parted
fresh_but : (records : Slab EdgeRecord) (key : ℕ) (waiting : List ℕ) (edge : Edge) → ((j : ℕ) → LiesAt records j edge → j ≡ key)
    → (j : ℕ) (x : Edge) → StandsAt records (key ∷ waiting) j x → x ≢ edge
fresh_but records key waiting edge once j x stands same =
    let here = once j (stands.0 ∙ ap Some same) in
    stands.1 (subst (λ (n : ℕ). Contains (key ∷ waiting) n) (sym here) (waits key waiting))

pub next_of_new : (side : Side) (objects : List ObjectRecord) (records : Slab EdgeRecord) (key : ℕ) (waiting : List ℕ) → AreChained side objects records (key ∷ waiting)
    → (edge : Edge) → ((j : ℕ) → LiesAt records j edge → j ≡ key) → (place next : Option ℕ) → next ≡ next_of side objects records (owner_of side edge) place
    → IsPlace side records (key ∷ waiting) edge place
    → IsNearest (StandsAt records (key ∷ waiting)) (λ y. Precedes side edge y) (Precedes side) next
next_of_new side objects records key waiting chained edge once place next is at_place =
    subst (λ (l : Option ℕ). IsNearest (StandsAt records (key ∷ waiting)) (λ y. Precedes side edge y) (Precedes side) l) (sym is)
    (next_nearest side objects records (key ∷ waiting) chained edge (fresh_but records key waiting edge once) place at_place)

pub joined_chain : (side : Side) (o0 o1 : List ObjectRecord) (r0 r1 : Slab EdgeRecord) (key : ℕ) (waiting : List ℕ) (edge : Edge) (place : Option ℕ)
    → AreChained side o0 r0 (key ∷ waiting) → LiesAt r0 key edge → (¬ Contains waiting key) → ((j : ℕ) → LiesAt r0 j edge → j ≡ key)
    → IsPlace side r0 (key ∷ waiting) edge place → IsJoined side key (owner_of side edge) place o0 r0 o1 r1
    → AreChained side o1 r1 waiting
joined_chain side o0 o1 r0 r1 key waiting edge place chained lies out once at_place join =
    joined (owner_of side) (Precedes side) (side_order side) same_oid (StandsAt r0 (key ∷ waiting)) (StandsAt r1 waiting) (stands_once r0 (key ∷ waiting))
    (link_at side After r0) (link_at side Before r0) (head_of side o0) chained key edge added (fresh_but r0 key waiting edge once)
    place (next_of side o0 r0 (owner_of side edge) place) at_place (next_of_new side o0 r0 key waiting chained edge once place (next_of side o0 r0 (owner_of side edge) place) refl at_place)
    (link_at side After r1) (link_at side Before r1) (head_of side o1) join.joined
  where
    added : IsAdded (StandsAt r0 (key ∷ waiting)) key edge (StandsAt r1 waiting)
    added = record {
      kept = λ k x stands. (join.edges.edges k ∙ stands.0, λ at. stands.1 (Contains-cons key k waiting at));
      new = (join.edges.edges key ∙ lies, out);
      only = λ k x stands.
          let there : LiesAt r0 k x = sym (join.edges.edges k) ∙ stands.0 in
          elim (cases_eq k key) [
            | inl same ↦ inr (same, some_same (sym (subst (λ (n : ℕ). LiesAt r0 n x) same there) ∙ lies))
            | inr other ↦ inl (there, λ at. elim (Contains-cons_cases key k waiting at) [ inl here ↦ other (sym here) | inr later ↦ stands.1 later ])
          ];
      vacant = λ x stands. stands.1 (waits key waiting);
    }

pub parted_chain : (side : Side) (o0 o1 : List ObjectRecord) (r0 r1 : Slab EdgeRecord) (key : ℕ) (waiting : List ℕ) (edge : Edge)
    → AreChained side o0 r0 waiting → StandsAt r0 waiting key edge → IsParted side key (owner_of side edge) o0 r0 o1 r1
    → AreChained side o1 r1 (key ∷ waiting)
parted_chain side o0 o1 r0 r1 key waiting edge chained stands part =
    parted (owner_of side) (Precedes side) (side_order side) same_oid (StandsAt r0 waiting) (StandsAt r1 (key ∷ waiting)) (stands_once r0 waiting)
    (link_at side After r0) (link_at side Before r0) (head_of side o0) chained key edge removed stands
    (link_at side After r1) (link_at side Before r1) (head_of side o1) part.parted
  where
    removed : IsRemoved (StandsAt r0 waiting) key (StandsAt r1 (key ∷ waiting))
    removed = record {
      kept = λ k x at other. (part.edges.edges k ∙ at.0, λ in_list. elim (Contains-cons_cases key k waiting in_list) [ inl here ↦ other (sym here) | inr later ↦ at.1 later ]);
      only = λ k x at. (
        (sym (part.edges.edges k) ∙ at.0, λ later. at.1 (Contains-cons key k waiting later)),
        λ same. at.1 (subst (λ (n : ℕ). Contains (key ∷ waiting) n) (sym same) (waits key waiting)),
      );
    }

-- the lists of the other side
pub other_chain : (side s : Side) → s ≢ side → (o0 o1 : List ObjectRecord) (r0 r1 : Slab EdgeRecord) → SameEdges r0 r1 → SameOthers side o0 r0 o1 r1
    → (waiting : List ℕ) → AreChained s o0 r0 waiting → AreChained s o1 r1 waiting
other_chain side s other o0 o1 r0 r1 edges others waiting chained =
    linked-same (owner_of s) (Precedes s) (StandsAt r0 waiting) (StandsAt r1 waiting)
    (λ k x stands. (edges.edges k ∙ stands.0, stands.1)) (λ k x stands. (sym (edges.edges k) ∙ stands.0, stands.1))
    (link_at s After r0) (link_at s Before r0) (head_of s o0) (link_at s After r1) (link_at s Before r1) (head_of s o1)
    (λ k x _. (others s other).0 After k) (λ k x _. (others s other).0 Before k) (others s other).1 chained

pub out_in : ◌≢◌ {A = Side} Out In
out_in same = absurd (cc)

pub in_out : ◌≢◌ {A = Side} In Out
in_out same = absurd (cc)

-- ---- put in a slab and taken from it
pub is_put : (old new : Slab EdgeRecord) (key : ℕ) (edge : Edge) → get old key ≡ None → Updates old new key (Some (alone edge)) → slab_len new ≡ slab_len old + 1 → new.capacity ≡ old.capacity → IsPut old key edge new
is_put old new key edge vacant updates len capacity = record {
  vacant = vacant;
  lies = ap edge_in updates.changed;
  others = λ j other. ap edge_in (updates.others j other);
  len = len;
  capacity = capacity;
}

alone_links : (s : Side) (w : Way) (edge : Edge) → link_of s w (alone edge) ≡ None
alone_links Out Before edge = refl
alone_links Out After edge = refl
alone_links In Before edge = refl
alone_links In After edge = refl

put_links : (old new : Slab EdgeRecord) (key : ℕ) (edge : Edge) → get old key ≡ None → Updates old new key (Some (alone edge)) → (s : Side) → SameLinks s old new
put_links old new key edge vacant updates s w j = elim (cases_eq j key) [
  | inl same ↦ ap (λ k. link_at s w new k) same ∙ ap (link_in s w) updates.changed ∙ alone_links s w edge ∙ ap (link_in s w) (sym vacant) ∙ ap (λ k. link_at s w old k) (sym same)
  | inr other ↦ ap (link_in s w) (updates.others j other)
]

pub put_chain : (s : Side) (objects : List ObjectRecord) (old new : Slab EdgeRecord) (key : ℕ) (edge : Edge) → get old key ≡ None → Updates old new key (Some (alone edge))
    → (waiting : List ℕ) → AreChained s objects old waiting → AreChained s objects new (key ∷ waiting)
put_chain s objects old new key edge vacant updates waiting chained =
    linked-same (owner_of s) (Precedes s) (StandsAt old waiting) (StandsAt new (key ∷ waiting))
    (λ k x stands.
    let other : k ≢ key = λ same. none_some (sym (ap edge_in vacant) ∙ subst (λ (n : ℕ). LiesAt old n x) same stands.0) in
    (ap edge_in (updates.others k other) ∙ stands.0, λ at. elim (Contains-cons_cases key k waiting at) [ inl here ↦ other (sym here) | inr later ↦ stands.1 later ]))
    (λ k x stands.
    let other : k ≢ key = λ same. stands.1 (subst (λ (n : ℕ). Contains (key ∷ waiting) n) (sym same) (waits key waiting)) in
    (ap edge_in (sym (updates.others k other)) ∙ stands.0, λ at. stands.1 (Contains-cons key k waiting at)))
    (link_at s After old) (link_at s Before old) (head_of s objects) (link_at s After new) (link_at s Before new) (head_of s objects)
    (λ k x _. put_links old new key edge vacant updates s After k) (λ k x _. put_links old new key edge vacant updates s Before k) (λ o. refl) chained

pub taken_chain : (s : Side) (objects : List ObjectRecord) (old new : Slab EdgeRecord) (key : ℕ) → Updates old new key None
    → (waiting : List ℕ) → (¬ Contains waiting key) → AreChained s objects old (key ∷ waiting) → AreChained s objects new waiting
taken_chain s objects old new key updates waiting out chained =
    linked-same (owner_of s) (Precedes s) (StandsAt old (key ∷ waiting)) (StandsAt new waiting) on back
    (link_at s After old) (link_at s Before old) (head_of s objects) (link_at s After new) (link_at s Before new) (head_of s objects)
    (λ k x stands. ap (link_in s After) (updates.others k (elsewhere k x stands))) (λ k x stands. ap (link_in s Before) (updates.others k (elsewhere k x stands))) (λ o. refl) chained
  where
    elsewhere : (k : ℕ) (x : Edge) → StandsAt new waiting k x → k ≢ key
    elsewhere k x stands same = none_some (sym (ap edge_in updates.changed) ∙ subst (λ (n : ℕ). LiesAt new n x) same stands.0)

    on : (k : ℕ) (x : Edge) → StandsAt old (key ∷ waiting) k x → StandsAt new waiting k x
    on k x stands =
        let other : k ≢ key = λ same. stands.1 (subst (λ (n : ℕ). Contains (key ∷ waiting) n) (sym same) (waits key waiting)) in
        (ap edge_in (updates.others k other) ∙ stands.0, λ at. stands.1 (Contains-cons key k waiting at))

    back : (k : ℕ) (x : Edge) → StandsAt new waiting k x → StandsAt old (key ∷ waiting) k x
    back k x stands =
        let other = elsewhere k x stands in
        (ap edge_in (sym (updates.others k other)) ∙ stands.0, λ at. elim (Contains-cons_cases key k waiting at) [ inl here ↦ other (sym here) | inr later ↦ stands.1 later ])

-- ---- objects that stay the same are live
oids : (objects : List ObjectRecord) → map (λ (o : ObjectRecord). o.oid) objects ≡ map (λ p. p.0) (map object_of objects)
oids [] = refl
oids (o ∷ objects) = ap (λ xs. o.oid ∷ xs) (oids objects)

pub live-same : (old new : List ObjectRecord) → map object_of new ≡ map object_of old → (oid : Oid) → IsLive old oid → IsLive new oid
live-same old new same oid live =
    subst (λ xs. Contains xs oid) (oids old ∙ ap (map (λ p. p.0)) (sym same) ∙ sym (oids new)) live

-- ---- an edge lies at one key
pub once_at : (side : Side) (objects : List ObjectRecord) (records : Slab EdgeRecord) → AreChained side objects records [] → (edge : Edge) (key : ℕ) → LiesAt records key edge
    → (j : ℕ) → LiesAt records j edge → j ≡ key
once_at side objects records chained edge key at_key j at_j =
    apart (owner_of side) (Precedes side) (side_order side) (StandsAt records []) (link_at side After records) (link_at side Before records) (head_of side objects)
    chained (stands_once records []) j key edge (at_j, none) (at_key, none)
  where
    none : {k : ℕ} → Contains [] k → ⊥
    none at = omega (arith, at.1)

pub none_waits : (k : ℕ) → Contains [] k → ⊥
none_waits k at = omega (arith, at.1)

-- ---- where an edge is put into a slab
pub put_start : (side : Side) (old new : Slab EdgeRecord) (key : ℕ) (r : EdgeRecord) → get old key ≡ None → Updates old new key (Some r)
    → (waiting : List ℕ) (edge : Edge) (start : Option ℕ) → IsStart side old waiting edge start → IsStart side new (key ∷ waiting) edge start
put_start side old new key r vacant updates waiting edge None start = tt
put_start side old new key r vacant updates waiting edge (Some k) start =
    let other : k ≢ key = λ same. none_some (sym (ap edge_in vacant) ∙ subst (λ (n : ℕ). LiesAt old n start.0) same start.1.0) in (
      start.0,
      (
        ap edge_in (updates.others k other) ∙ start.1.0,
        λ at. elim (Contains-cons_cases key k waiting at) [ inl here ↦ other (sym here) | inr later ↦ start.1.1 later ],
      ),
      start.2,
    )

pub put_once : (old new : Slab EdgeRecord) (key : ℕ) (edge : Edge) (r : EdgeRecord) → (¬ HasEdge old edge) → Updates old new key (Some r)
    → (j : ℕ) → LiesAt new j edge → j ≡ key
put_once old new key edge r fresh updates j lies = elim (cases_eq j key) [
  | inl same ↦ same
  | inr other ↦ absurd (fresh (j, ap edge_in (sym (updates.others j other)) ∙ lies))
]

-- the slab with the new record, before it is joined
pub record IsReady (side : Side) (objects : List ObjectRecord) (new : Slab EdgeRecord) (key : ℕ) (edge : Edge) (start : Option ℕ) : Type 0 where
  pub chained : AreChained side objects new (key ∷ [])
  pub begins : IsStart side new (key ∷ []) edge start
  pub lies : LiesAt new key edge
  pub once : (j : ℕ) → LiesAt new j edge → j ≡ key

pub ready : (side : Side) (objects : List ObjectRecord) (old new : Slab EdgeRecord) (key : ℕ) (edge : Edge) (start : Option ℕ) (r : EdgeRecord)
    → r ≡ alone edge → get old key ≡ None → Updates old new key (Some r) → (¬ HasEdge old edge) → AreChained side objects old [] → IsStart side old [] edge start
    → IsReady side objects new key edge start
ready side objects old new key edge start r is vacant updates fresh chained at =
    let updates_alone = subst (λ (x : EdgeRecord). Updates old new key (Some x)) is updates in
    record {
      chained = put_chain side objects old new key edge vacant updates_alone [] chained;
      begins = put_start side old new key r vacant updates [] edge start at;
      lies = ap edge_in updates_alone.changed;
      once = put_once old new key edge r fresh updates;
    }

pub put_out_all : (o0 o1 : List ObjectRecord) (r0 r1 r2 : Slab EdgeRecord) (key : ℕ) (edge : Edge) (start place : Option ℕ) (r : EdgeRecord)
    → r ≡ alone edge → get r0 key ≡ None → Updates r0 r1 key (Some r) → slab_len r1 ≡ slab_len r0 + 1 → r1.capacity ≡ r0.capacity
    → IsReady Out o0 r1 key edge start → IsPlace Out r1 (key ∷ []) edge place → IsJoined Out key edge.parent place o0 r1 o1 r2
    → IsPutOut edge key o0 r0 o1 r2
put_out_all o0 o1 r0 r1 r2 key edge start place r is vacant updates len capacity made at_place join =
    let updates_alone = subst (λ (x : EdgeRecord). Updates r0 r1 key (Some x)) is updates in
    record {
      put = record {
        vacant = vacant;
        lies = join.edges.edges key ∙ made.lies;
        others = λ j other. join.edges.edges j ∙ ap edge_in (updates.others j other);
        len = join.edges.len ∙ len;
        capacity = join.edges.capacity ∙ capacity;
      };
      objects = join.objects;
      ascend = join.ascend;
      out = joined_chain Out o0 o1 r1 r2 key [] edge place made.chained made.lies none_waits_any made.once at_place join;
      entering = λ waiting chained.
          other_chain Out In in_out o0 o1 r1 r2 join.edges join.others (key ∷ waiting) (put_chain In o0 r0 r1 key edge vacant updates_alone waiting chained);
    }
  where
    none_waits_any : ¬ Contains [] key
    none_waits_any = none_waits key

-- ---- where a record is taken from both lists
pub record IsHalfTaken (o1 : List ObjectRecord) (r1 : Slab EdgeRecord) (key : ℕ) (edge : Edge) : Type 0 where
  pub out : AreChained Out o1 r1 (key ∷ [])
  pub entering : AreChained In o1 r1 []
  pub lies : LiesAt r1 key edge

pub half_taken : (o0 o1 : List ObjectRecord) (r0 r1 : Slab EdgeRecord) (key : ℕ) (edge : Edge) → AreChained Out o0 r0 [] → AreChained In o0 r0 []
    → LiesAt r0 key edge → IsParted Out key edge.parent o0 r0 o1 r1 → IsHalfTaken o1 r1 key edge
half_taken o0 o1 r0 r1 key edge out entering lies part = record {
  out = parted_chain Out o0 o1 r0 r1 key [] edge out (lies, none_waits key) part;
  entering = other_chain Out In in_out o0 o1 r0 r1 part.edges part.others [] entering;
  lies = part.edges.edges key ∙ lies;
}

pub take_out_all : (o0 o1 o2 : List ObjectRecord) (r0 r1 r2 r3 : Slab EdgeRecord) (key : ℕ) (edge : Edge)
    → IsHalfTaken o1 r1 key edge → IsParted Out key edge.parent o0 r0 o1 r1 → IsParted In key edge.child o1 r1 o2 r2 → Updates r2 r3 key None
    → slab_len r3 + 1 ≡ slab_len r2 → r3.capacity ≡ r2.capacity
    → IsTakenOut key o0 r0 o2 r3
take_out_all o0 o1 o2 r0 r1 r2 r3 key edge half one two updates len capacity = record {
  taken = record {
    none = updates.changed;
    others = λ j other. ap edge_in (updates.others j other) ∙ two.edges.edges j ∙ one.edges.edges j;
    len = len ∙ two.edges.len ∙ one.edges.len;
    capacity = capacity ∙ two.edges.capacity ∙ one.edges.capacity;
  };
  objects = two.objects ∙ one.objects;
  ascend = two.ascend;
  out = taken_chain Out o2 r2 r3 key updates [] (none_waits key) (other_chain In Out out_in o1 o2 r1 r2 two.edges two.others (key ∷ []) half.out);
  entering = taken_chain In o2 r2 r3 key updates [] (none_waits key) (parted_chain In o1 o2 r1 r2 key [] edge half.entering (half.lies, none_waits key) two);
}

-- ---- behind the place of an edge that is there comes its record
pub next_is : (side : Side) (objects : List ObjectRecord) (records : Slab EdgeRecord) (waiting : List ℕ) → AreChained side objects records waiting
    → (edge : Edge) (key : ℕ) → StandsAt records waiting key edge → (place : Option ℕ) → IsPlace side records waiting edge place
    → next_of side objects records (owner_of side edge) place ≡ Some key
next_is side objects records waiting chained edge key stands None none =
    let at = found (StandsAt records waiting) (λ y. owner_of side y ≡ owner_of side edge) (Precedes side) (head_of side objects (owner_of side edge)) (chained.heads (owner_of side edge)) key edge stands refl in
    elim at.reached [
      | inl here ↦ at.is ∙ ap Some (sym here)
      | inr less ↦ absurd (none at.first at.near at.lies less)
    ]
next_is side objects records waiting chained edge key stands (Some place) here =
    let order = side_order side in
    let at = found (StandsAt records waiting) (λ y. Precedes side here.0 y) (Precedes side) (link_at side After records place) (chained.ahead place here.0 here.1) key edge stands here.2 in
    elim at.reached [
      | inl same ↦ at.is ∙ ap Some (sym same)
      | inr less ↦ absurd (elim (here.3 at.first at.near at.lies less) [
        | inl same ↦ order.never here.0 (subst (λ (x : Edge). Precedes side here.0 x) (stands_once records waiting place at.near here.0 (subst (λ (n : ℕ). StandsAt records waiting n at.near) same at.lies) here.1) at.holds)
        | inr back ↦ order.never here.0 (order.trans here.0 at.near here.0 at.holds back)
      ])
    ]

pub record_here : (records : Slab EdgeRecord) (key : ℕ) (r : EdgeRecord) (edge : Edge) → get records key ≡ Some r → r.edge ≡ edge → LiesAt records key edge
record_here records key r edge got same = ap edge_in got ∙ ap Some same

pub not_there : (found next : Option ℕ) (records : Slab EdgeRecord) (edge : Edge) → IfNone found ((k : ℕ) → next ≡ Some k → ¬ LiesAt records k edge)
    → ((key : ℕ) → LiesAt records key edge → next ≡ Some key) → IfNone found (¬ HasEdge records edge)
not_there None next records edge none leads = λ has. none has.0 (leads has.0 has.1) has.1
not_there (Some key) next records edge none leads = tt
