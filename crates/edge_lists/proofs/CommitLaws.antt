-- Edges that are put and taken, one after another.
use Rattle.std.proofs.Common.{◌≡◌, ◌≢◌, ℕ, suc, ◌+◌, ◌-◌, ◌<◌, Less, Option, Some, List, [], ◌∷◌, ◌++◌, length, get_or, map, Contains, All, refl, sym, ap, ◌∙◌, inl, inr, subst, arith}
use Rattle.std.proofs.lemmas.Bool.{cases_eq, cases_lt}
use Rattle.std.proofs.Common.{take, drop}
use Rattle.std.proofs.lemmas.List.{get_or_append_left, get_or-append_right, length_push, take_more, take-append-drop, length-take, get_or_default, length-map, get_or-map, length-drop, get_or-drop, drop_more}
use Rattle.std.proofs.lemmas.List.Elements.{Contains-get_or, Contains-push, Contains-push_cases, Contains-append_left, Contains-append_right, Contains-append_cases}
use Rattle.list_laws.proofs.MemberLaws.{Contains-map}
use Rattle.slab.specs.Slab.{Slab}
use Rattle.slab.proofs.SlabLemmas.{Contains-cons, Contains-cons_cases}
use Rattle.edge_lists.specs.Types.{Oid, Edge, Side, Out, In, Before, After, EdgeRecord, ObjectRecord}
use Rattle.edge_lists.specs.Edges.{owner_of, Precedes, side_cmp, Ascend}
use Rattle.edge_lists.specs.Records.{link_at, edge_in, LiesAt, HasEdge, SameEdges, IsPut}
use Rattle.edge_lists.specs.Objects.{head_of, object_of, AreAscendingObjects, IsLive}
use Rattle.edge_lists.specs.Chains.{StandsAt, AreChained, IsStart, WaitAmong, IsPutOut, IsPutIn, IsTakenOut}
use Rattle.edge_lists.specs.Commits.{ArePut, AreEntered, key_at, keys_at, ArePlaces, AreTaken, AreChanged}
use Rattle.near_links.proofs.NearLaws.{found}
use Rattle.edge_lists.proofs.ObjectLaws.{head-past}
use Rattle.edge_lists.proofs.WalkLaws.{some_same, none_some}
use Rattle.edge_lists.proofs.ChangeLaws.{linked-same, once_at, none_waits, live-same}
use Rattle.edge_lists.proofs.EdgeLaws.{cmp_self, less≢equal}

-- the order of what waits is of no account
pub same_waiting : (side : Side) (objects : List ObjectRecord) (records : Slab EdgeRecord) (waiting others : List ℕ)
    → ((k : ℕ) → Contains waiting k → Contains others k) → ((k : ℕ) → Contains others k → Contains waiting k)
    → AreChained side objects records waiting → AreChained side objects records others
same_waiting side objects records waiting others on back chained =
    linked-same (owner_of side) (Precedes side) (StandsAt records waiting) (StandsAt records others)
    (λ k x stands. (stands.0, λ at. stands.1 (back k at))) (λ k x stands. (stands.0, λ at. stands.1 (on k at)))
    (link_at side After records) (link_at side Before records) (head_of side objects) (link_at side After records) (link_at side Before records) (head_of side objects)
    (λ k x _. refl) (λ k x _. refl) (λ o. refl) chained

lies_then : (old new : Slab EdgeRecord) (key : ℕ) (edge : Edge) → IsPut old key edge new → (k : ℕ) (x : Edge) → LiesAt old k x → LiesAt new k x
lies_then old new key edge put k x lies =
    let other : k ≢ key = λ same. none_some (sym (ap edge_in put.vacant) ∙ subst (λ (n : ℕ). LiesAt old n x) same lies) in
    put.others k other ∙ lies

pub put_more : (come : List Edge) (o0 o1 o2 : List ObjectRecord) (r0 r1 r2 : Slab EdgeRecord) (keys : List ℕ) (edge : Edge) (key : ℕ)
    → ArePut come o0 r0 o1 r1 keys → IsPutOut edge key o1 r1 o2 r2 → ArePut (come ++ edge ∷ []) o0 r0 o2 r2 (keys ++ key ∷ [])
put_more come o0 o1 o2 r0 r1 r2 keys edge key all one = record {
  objects = one.objects ∙ all.objects;
  ascend = one.ascend;
  out = one.out;
  entering = λ chained. same_waiting In o2 r2 (key ∷ keys) (keys ++ key ∷ [])
      (λ k at. elim (Contains-cons_cases key k keys at) [
        | inl here ↦ subst (λ (n : ℕ). Contains (keys ++ key ∷ []) n) here (Contains-push keys key)
        | inr later ↦ Contains-append_left keys (key ∷ []) k later
      ])
      (λ k at. elim (Contains-push_cases keys key k at) [
        | inl earlier ↦ Contains-cons key k keys earlier
        | inr here ↦ (0, omega arith, here)
      ])
      (one.entering keys (all.entering chained));
  edges = λ e. (
    λ has. elim (cases_eq has.0 key) [
      | inl same ↦
          let is : edge ≡ e = some_same (sym one.put.lies ∙ subst (λ (n : ℕ). LiesAt r2 n e) same has.1) in
          inr (subst (λ (x : Edge). Contains (come ++ edge ∷ []) x) is (Contains-push come edge))
      | inr other ↦ elim ((all.edges e).0 (has.0, sym (one.put.others has.0 other) ∙ has.1)) [
        | inl old ↦ inl old
        | inr at ↦ inr (Contains-append_left come (edge ∷ []) e at)
      ]
    ],
    λ either.
        let earlier = λ (had : HasEdge r1 e). let result : HasEdge r2 e = (had.0, lies_then r1 r2 key edge one.put had.0 e had.1) in result in
        elim either [
          | inl old ↦ earlier ((all.edges e).1 (inl old))
          | inr at ↦ elim (Contains-push_cases come edge e at) [
            | inl before ↦ earlier ((all.edges e).1 (inr before))
            | inr here ↦ (key, subst (λ (x : Edge). LiesAt r2 key x) here one.put.lies)
          ]
        ],
  );
  kept = λ k x lies. lies_then r1 r2 key edge one.put k x (all.kept k x lies);
  count = length_push keys key ∙ ap (λ n. n + 1) all.count ∙ sym (length_push come edge);
  lie = λ k d lt. elim (cases_lt k (length keys)) [
    | inl early ↦
        rw (get_or_append_left keys (key ∷ []) 0 k early, get_or_append_left come (edge ∷ []) d k (omega (arith, all.count)))
        (lies_then r1 r2 key edge one.put _ _ (all.lie k d early))
    | inr late ↦
        let at : k ≡ length keys = omega (arith, length_push keys key) in
        let here : k - length keys ≡ 0 = omega arith in
        let there : k - length come ≡ 0 = omega (arith, all.count) in
        let first : get_or (keys ++ key ∷ []) k 0 ≡ key = get_or-append_right keys (key ∷ []) (length keys) k 0 refl late ∙ ap (λ n. get_or (key ∷ []) n 0) here in
        let second : get_or (come ++ edge ∷ []) k d ≡ edge = get_or-append_right come (edge ∷ []) (length come) k d refl (omega (arith, all.count)) ∙ ap (λ n. get_or (edge ∷ []) n d) there in
        rw (first, second) one.put.lies
  ];
  len = omega (arith, one.put.len, all.len, length_push come edge);
  capacity = one.put.capacity ∙ all.capacity;
}

-- an edge isn't among those before it
not_before : (side : Side) (come : List Edge) → Ascend side come → (i : ℕ) (d : Edge) → i < length come → Contains (take i come) (get_or come i d) → ⊥
not_before side come ascends i d lt at =
    let e = get_or come i d in
    let k = at.0 in
    let lt_k : k < i = omega (arith, at.1, length-take i come) in
    let read : get_or come k e ≡ e =
    ap (λ (xs : List Edge). get_or xs k e) (sym (take-append-drop i come)) ∙ get_or_append_left (take i come) (drop i come) e k at.1 ∙ at.2 in
    let here : get_or come i e ≡ e = get_or_default come i e d lt in
    less≢equal (sym (subst (λ (x : Edge). side_cmp side x e ≡ Less) read (subst (λ (x : Edge). side_cmp side (get_or come k e) x ≡ Less) here (ascends k i e lt_k lt))) ∙ cmp_self side e)

pub fresh_at : (come : List Edge) (o0 o1 : List ObjectRecord) (r0 r1 : Slab EdgeRecord) (keys : List ℕ) (i : ℕ) (d : Edge)
    → ArePut (take i come) o0 r0 o1 r1 keys → Ascend Out come → All (λ edge. ¬ HasEdge r0 edge) come → i < length come → ¬ HasEdge r1 (get_or come i d)
fresh_at come o0 o1 r0 r1 keys i d put ascends new lt has = elim ((put.edges (get_or come i d)).0 has) [
  | inl old ↦ new i d lt old
  | inr at ↦ not_before Out come ascends i d lt at
]

pub put_step : (come : List Edge) (i : ℕ) (d : Edge) → i < length come → (o0 o1 o2 : List ObjectRecord) (r0 r1 r2 : Slab EdgeRecord) (keys more : List ℕ) (key : ℕ)
    → more ≡ keys ++ key ∷ [] → ArePut (take i come) o0 r0 o1 r1 keys → IsPutOut (get_or come i d) key o1 r1 o2 r2 → ArePut (take (i + 1) come) o0 r0 o2 r2 more
put_step come i d lt o0 o1 o2 r0 r1 r2 keys more key is all one =
    subst (λ (xs : List Edge). ArePut xs o0 r0 o2 r2 more) (sym (take_more come i d lt))
    (subst (λ (ks : List ℕ). ArePut (take i come ++ get_or come i d ∷ []) o0 r0 o2 r2 ks) (sym is)
    (put_more (take i come) o0 o1 o2 r0 r1 r2 keys (get_or come i d) key all one))

-- ---- edges that go
-- none of no edges is taken
pub taken_none : (objects : List ObjectRecord) (records : Slab EdgeRecord) → AreAscendingObjects objects → AreChained Out objects records []
    → AreChained In objects records [] → AreTaken [] objects records objects records
taken_none objects records ascend out entering = record {
  objects = refl;
  ascend = ascend;
  out = out;
  entering = entering;
  edges = λ e. (λ has. (has, λ at. absurd (omega (arith, at.1))), λ both. both.0);
  kept = λ k e lies stays. lies;
  capacity = refl;
}

-- an edge that isn't there is none to be taken
pub taken_absent : (edge : Edge) (objects : List ObjectRecord) (records : Slab EdgeRecord) → AreAscendingObjects objects → AreChained Out objects records []
    → AreChained In objects records [] → (¬ HasEdge records edge) → AreTaken (edge ∷ []) objects records objects records
taken_absent edge objects records ascend out entering absent = record {
  objects = refl;
  ascend = ascend;
  out = out;
  entering = entering;
  edges = λ e. (
    λ has. (
      has,
      λ at. elim (Contains-push_cases [] edge e at) [
        | inl none ↦ omega (arith, none.1)
        | inr here ↦ absent (subst (λ (x : Edge). HasEdge records x) (sym here) has)
      ],
    ),
    λ both. both.0,
  );
  kept = λ k e lies stays. lies;
  capacity = refl;
}

-- the record of an edge is taken
pub taken_one : (edge : Edge) (o1 o2 : List ObjectRecord) (r1 r2 : Slab EdgeRecord) (key : ℕ) → AreChained Out o1 r1 [] → LiesAt r1 key edge
    → IsTakenOut key o1 r1 o2 r2 → AreTaken (edge ∷ []) o1 r1 o2 r2
taken_one edge o1 o2 r1 r2 key out lies one = record {
  objects = one.objects;
  ascend = one.ascend;
  out = one.out;
  entering = one.entering;
  edges = λ e. (
    λ has.
        let other : has.0 ≢ key = λ same. none_some (sym (ap edge_in one.taken.none) ∙ subst (λ (n : ℕ). LiesAt r2 n e) same has.1) in
        let had : LiesAt r1 has.0 e = sym (one.taken.others has.0 other) ∙ has.1 in (
          (has.0, had),
          λ at. elim (Contains-push_cases [] edge e at) [
            | inl none ↦ omega (arith, none.1)
            | inr here ↦ other (once_at Out o1 r1 out edge key lies has.0 (had ∙ ap Some (sym here)))
          ],
        ),
    λ both. (both.0.0, one.taken.others both.0.0 (stays_at e both.0.0 both.0.1 both.1) ∙ both.0.1),
  );
  kept = λ k e at stays. one.taken.others k (stays_at e k at stays) ∙ at;
  capacity = one.taken.capacity;
}
  where
    stays_at : (e : Edge) (k : ℕ) → LiesAt r1 k e → (¬ Contains (edge ∷ []) e) → k ≢ key
    stays_at e k at stays same =
        let is : edge ≡ e = some_same (sym lies ∙ subst (λ (n : ℕ). LiesAt r1 n e) same at) in
        stays (subst (λ (x : Edge). Contains (edge ∷ []) x) is (Contains-push [] edge))

pub taken_more : (gone : List Edge) (o0 o1 o2 : List ObjectRecord) (r0 r1 r2 : Slab EdgeRecord) (edge : Edge)
    → AreTaken gone o0 r0 o1 r1 → AreTaken (edge ∷ []) o1 r1 o2 r2 → AreTaken (gone ++ edge ∷ []) o0 r0 o2 r2
taken_more gone o0 o1 o2 r0 r1 r2 edge all one = record {
  objects = one.objects ∙ all.objects;
  ascend = one.ascend;
  out = one.out;
  entering = one.entering;
  edges = λ e. (
    λ has.
        let last = (one.edges e).0 has in
        let before = (all.edges e).0 last.0 in
        (before.0, λ at. elim (Contains-append_cases gone (edge ∷ []) e at) [ inl earlier ↦ before.1 earlier | inr here ↦ last.1 here ]),
    λ both. (one.edges e).1 (
      (all.edges e).1 (both.0, λ at. both.1 (Contains-append_left gone (edge ∷ []) e at)),
      λ at. both.1 (Contains-append_right gone (edge ∷ []) e at),
    ),
  );
  kept = λ k e lies stays. one.kept k e (all.kept k e lies (λ at. stays (Contains-append_left gone (edge ∷ []) e at)))
      (λ at. stays (Contains-append_right gone (edge ∷ []) e at));
  capacity = one.capacity ∙ all.capacity;
}

pub taken_step : (gone : List Edge) (i : ℕ) (d : Edge) → i < length gone → (o0 o1 o2 : List ObjectRecord) (r0 r1 r2 : Slab EdgeRecord)
    → AreTaken (take i gone) o0 r0 o1 r1 → AreTaken (get_or gone i d ∷ []) o1 r1 o2 r2 → AreTaken (take (i + 1) gone) o0 r0 o2 r2
taken_step gone i d lt o0 o1 o2 r0 r1 r2 all one =
    subst (λ (xs : List Edge). AreTaken xs o0 r0 o2 r2) (sym (take_more gone i d lt))
    (taken_more (take i gone) o0 o1 o2 r0 r1 r2 (get_or gone i d) all one)

-- an edge that is there has live ends
live_head : (side : Side) (objects : List ObjectRecord) (oid : Oid) (key : ℕ) → head_of side objects oid ≡ Some key → IsLive objects oid
live_head side [] oid key is = absurd (none_some is)
live_head side (o ∷ objects) oid key is = elim (cases_eq o.oid.0 oid.0) [
  | inl same ↦ (0, omega arith, ap (λ n. record { 0 = n }) same)
  | inr other ↦
      let later = live_head side objects oid key (sym (head-past side o objects oid other) ∙ is) in
      (suc later.0, omega (arith, later.1), later.2)
]

pub live_end : (side : Side) (objects : List ObjectRecord) (records : Slab EdgeRecord) → AreChained side objects records [] → (edge : Edge) → HasEdge records edge → IsLive objects (owner_of side edge)
live_end side objects records chained edge has =
    let at = found (StandsAt records []) (λ y. owner_of side y ≡ owner_of side edge) (Precedes side) (head_of side objects (owner_of side edge)) (chained.heads (owner_of side edge))
    has.0 edge (has.1, none_waits has.0) refl in
    live_head side objects (owner_of side edge) at.first at.is

-- ---- records that wait
pub contains_unmap : {A B : Type 0} (f : A → B) (xs : List A) (d : A) (y : B) → Contains (map f xs) y → (x : A) × Contains xs x × (f x ≡ y)
contains_unmap f xs d y at =
    let lt : at.0 < length xs = omega (arith, at.1, length-map xs f) in
    (get_or xs at.0 d, Contains-get_or xs at.0 d lt, sym (get_or-map f xs at.0 d y lt) ∙ at.2)

pub all_wait : (objects : List ObjectRecord) (records : Slab EdgeRecord) (keys places : List ℕ) (count : ℕ) → length keys ≡ count → ArePlaces count places
    → AreChained In objects records keys → AreChained In objects records (keys_at keys places)
all_wait objects records keys places count len whole chained = same_waiting In objects records keys (keys_at keys places)
    (λ k at.
    let found = whole.all at.0 (omega (arith, at.1, len)) in
    let read : key_at keys at.0 ≡ k = get_or_default keys at.0 0 k at.1 ∙ at.2 in
    subst (λ (n : ℕ). Contains (keys_at keys places) n) read (Contains-map (key_at keys) places at.0 found))
    (λ k at.
    let place = contains_unmap (key_at keys) places 0 k at in
    let lt : place.0 < length keys = omega (arith, len, subst (λ (n : ℕ). n < count) place.1.2 (whole.within place.1.0 place.0 place.1.1)) in
    subst (λ (n : ℕ). Contains keys n) place.2 (Contains-get_or keys place.0 0 lt))
    chained

one_place : (come : List Edge) → Ascend Out come → (i j : ℕ) (d : Edge) → i < length come → j < length come → get_or come i d ≡ get_or come j d → i ≡ j
one_place come ascends i j d lt_i lt_j same = elim (cases_lt i j) [
  | inl before ↦ absurd (less≢equal (sym (ascends i j d before lt_j) ∙ ap (λ (x : Edge). side_cmp Out x (get_or come j d)) same ∙ cmp_self Out (get_or come j d)))
  | inr le ↦ elim (cases_lt j i) [
    | inl after ↦ absurd (less≢equal (sym (ascends j i d after lt_i) ∙ ap (λ (x : Edge). side_cmp Out x (get_or come i d)) (sym same) ∙ cmp_self Out (get_or come i d)))
    | inr ge ↦ omega arith
  ]
]

-- the next record doesn't wait behind itself
pub waits_once : (records : Slab EdgeRecord) (come : List Edge) (keys places : List ℕ) (d : Edge) → Ascend Out come → length keys ≡ length come
    → ((k : ℕ) (d : Edge) → k < length keys → LiesAt records (get_or keys k 0) (get_or come k d)) → ArePlaces (length come) places
    → (i : ℕ) → i < length places → ¬ Contains (keys_at keys (drop (i + 1) places)) (key_at keys (get_or places i 0))
waits_once records come keys places d ascends len lie whole i lt at =
    let here = get_or places i 0 in
    let found = contains_unmap (key_at keys) (drop (i + 1) places) 0 (key_at keys here) at in
    let p = found.0 in
    let m = found.1.0 in
    let lt_m : i + 1 + m < length places = omega (arith, found.1.1, length-drop (i + 1) places) in
    let there : get_or places (i + 1 + m) 0 ≡ p = sym (get_or-drop (i + 1) places m 0) ∙ get_or_default (drop (i + 1) places) m 0 p found.1.1 ∙ found.1.2 in
    let lt_here : here < length come = whole.within i 0 lt in
    let lt_p : p < length come = subst (λ (n : ℕ). n < length come) there (whole.within (i + 1 + m) 0 lt_m) in
    let one = lie here d (omega (arith, lt_here, len)) in
    let two = subst (λ (k : ℕ). LiesAt records k (get_or come p d)) found.2 (lie p d (omega (arith, lt_p, len))) in
    let same = one_place come ascends here p d lt_here lt_p (some_same (sym one ∙ two)) in
    whole.once i (i + 1 + m) 0 (omega arith) lt_m (same ∙ sym there)

pub lies_same : (old new : Slab EdgeRecord) → SameEdges old new → (k : ℕ) (e : Edge) → LiesAt old k e → LiesAt new k e
lies_same old new same k e lies = same.edges k ∙ lies

pub same_trans : (a b c : Slab EdgeRecord) → SameEdges a b → SameEdges b c → SameEdges a c
same_trans a b c one two = record {
  edges = λ key. two.edges key ∙ one.edges key;
  len = two.len ∙ one.len;
  capacity = two.capacity ∙ one.capacity;
}

-- what is left waits from a place on
pub left_from : (keys places : List ℕ) (i : ℕ) → i < length places → keys_at keys (drop i places) ≡ key_at keys (get_or places i 0) ∷ keys_at keys (drop (i + 1) places)
left_from keys places i lt = ap (map (key_at keys)) (drop_more places i 0 lt)

-- those that wait have edges of those that come
pub all_among : (r0 r1 : Slab EdgeRecord) (come : List Edge) (keys places : List ℕ) → SameEdges r0 r1 → length keys ≡ length come
    → ((k : ℕ) (d : Edge) → k < length keys → LiesAt r0 (get_or keys k 0) (get_or come k d)) → ArePlaces (length come) places
    → (i : ℕ) (k : ℕ) (other : Edge) → Contains (keys_at keys (drop i places)) k → LiesAt r1 k other → Contains come other
all_among r0 r1 come keys places same len lie whole i k other at lies =
    let found = contains_unmap (key_at keys) (drop i places) 0 k at in
    let p = found.0 in
    let m = found.1.0 in
    let lt_m : i + m < length places = omega (arith, found.1.1, length-drop i places) in
    let there : get_or places (i + m) 0 ≡ p = sym (get_or-drop i places m 0) ∙ get_or_default (drop i places) m 0 p found.1.1 ∙ found.1.2 in
    let lt_p : p < length come = subst (λ (n : ℕ). n < length come) there (whole.within (i + m) 0 lt_m) in
    let old : LiesAt r0 k (get_or come p other) = subst (λ (n : ℕ). LiesAt r0 n (get_or come p other)) found.2 (lie p other (omega (arith, lt_p, len))) in
    (p, lt_p, some_same (sym (same.edges k ∙ old) ∙ lies))

pub entered_more : (o0 o1 o2 : List ObjectRecord) (r0 r1 r2 : Slab EdgeRecord) (waiting : List ℕ) (edge : Edge) (key : ℕ) (start : Option ℕ) (come : List Edge)
    → AreEntered o0 r0 o1 r1 (key ∷ waiting) → (¬ Contains waiting key) → WaitAmong In r1 (key ∷ waiting) edge come → IsStart In r1 (key ∷ waiting) edge start
    → IsPutIn edge key start come o1 r1 o2 r2 → AreEntered o0 r0 o2 r2 waiting
entered_more o0 o1 o2 r0 r1 r2 waiting edge key start come all out among at one = record {
  edges = same_trans r0 r1 r2 all.edges one.edges;
  objects = one.objects ∙ all.objects;
  ascend = one.ascend;
  out = one.out;
  entering = one.entering waiting out all.entering among at;
}

-- ---- the whole change
pub all_live : (o0 o1 : List ObjectRecord) → map object_of o1 ≡ map object_of o0 → {T : Type 0} (f : T → Oid) (xs : List T)
    → All (λ x. IsLive o0 (f x)) xs → All (λ x. IsLive o1 (f x)) xs
all_live o0 o1 same f xs live k d lt = live-same o0 o1 same (f (get_or xs k d)) (live k d lt)

pub changed_all : (come : List Edge) (gone : List Edge) (o0 o1 o2 o3 : List ObjectRecord) (r0 r1 r2 r3 : Slab EdgeRecord) (keys : List ℕ)
    → ArePut come o0 r0 o1 r1 keys → AreEntered o1 r1 o2 r2 [] → AreTaken gone o2 r2 o3 r3 → AreChanged come gone o0 r0 o3 r3
changed_all come gone o0 o1 o2 o3 r0 r1 r2 r3 keys put entered taken = record {
  objects = taken.objects ∙ entered.objects ∙ put.objects;
  ascend = taken.ascend;
  out = taken.out;
  entering = taken.entering;
  edges = λ e. (
    λ has.
        let both = (taken.edges e).0 has in
        ((put.edges e).0 (both.0.0, sym (entered.edges.edges both.0.0) ∙ both.0.1), both.1),
    λ both.
        let had = (put.edges e).1 both.0 in
        (taken.edges e).1 ((had.0, entered.edges.edges had.0 ∙ had.1), both.1),
  );
  kept = λ k e lies stays. taken.kept k e (entered.edges.edges k ∙ put.kept k e lies) stays;
  capacity = taken.capacity ∙ entered.edges.capacity ∙ put.capacity;
}
