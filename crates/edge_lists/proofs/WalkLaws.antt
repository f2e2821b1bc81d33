-- Walks along a list: where they end, and that they come nearer to its end.
use Rattle.std.proofs.Common.{◌≡◌, ◌⊎◌, ℕ, zero, suc, ◌+◌, ◌<◌, ◌≤◌, Bool, true, false, cond, Less, Equal, Greater, Option, Some, None, List, [], ◌∷◌, length, get_or, count_by, refl, sym, ap, ◌∙◌, inl, inr, subst, arith}
use Rattle.std.specs.declared.cmp.Ordering.{Ordering}
use Rattle.std.proofs.lemmas.Bool.{cases_lt, true≢false}
use Rattle.std.proofs.lemmas.List.{get_or_past}
use Rattle.std.proofs.lemmas.List.Sums.{sum_by-cons, count_by-le-length}
use Rattle.slab.specs.Slab.{Slab, get}
use Rattle.edge_lists.specs.Types.{Edge, Side, Before, After, EdgeRecord, ObjectRecord}
use Rattle.near_links.specs.Links.{IsNearest, AreAtKeys, AreLinked}
use Rattle.edge_lists.specs.Edges.{owner_of, side_cmp, Precedes}
use Rattle.edge_lists.specs.Records.{link_at, edge_in, LiesAt}
use Rattle.edge_lists.specs.Objects.{head_of}
use Rattle.edge_lists.specs.Chains.{next_of, StandsAt, AreChained, IsStart, IsPlace, IsPast}
use Rattle.near_links.proofs.NearLaws.{IsOrder, found}
use Rattle.near_links.proofs.LinkLaws.{leads_on}
use Rattle.edge_lists.proofs.EdgeLaws.{side_total, cmp_self, side_order}

pub some_same : {T : Type 0} {a b : T} → ◌≡◌ {A = Option T} (Some a) (Some b) → a ≡ b
some_same {T} {a} {b} same = cc

pub none_some : {T : Type 0} {a : T} → ◌≡◌ {A = Option T} None (Some a) → ⊥
none_some {T} {a} same = absurd (cc)

-- linked items stand at one key each
pub apart : {X O : Type 0} (owner : X → O) (R : X → X → Type 0) → IsOrder owner R → (at : ℕ → X → Type 0) (after before : ℕ → Option ℕ) (first : O → Option ℕ)
    → AreLinked owner R at after before first → AreAtKeys at
    → (j k : ℕ) (x : X) → at j x → at k x → j ≡ k
apart owner R order at after before first linked one j k x at_j at_k = by_back (leads_on (before j))
  where
    by_back : ((before j ≡ None) ⊎ ((p : ℕ) × (before j ≡ Some p))) → j ≡ k
    by_back (inl none) =
        let nothing = subst (λ (l : Option ℕ). IsNearest at (λ y. R y x) (λ a b. R b a) l) none (linked.back j x at_j) in
        let of_j = found at (λ y. owner y ≡ owner x) R (first (owner x)) (linked.heads (owner x)) j x at_j refl in
        let of_k = found at (λ y. owner y ≡ owner x) R (first (owner x)) (linked.heads (owner x)) k x at_k refl in
        let same : of_j.first ≡ of_k.first = some_same (sym of_j.is ∙ of_k.is) in
        elim of_j.reached [
          | inl here ↦ elim of_k.reached [
            | inl there ↦ here ∙ same ∙ sym there
            | inr less ↦ absurd (nothing of_k.first of_k.near of_k.lies less)
          ]
          | inr less ↦ absurd (nothing of_j.first of_j.near of_j.lies less)
        ]
    by_back (inr some) =
        let near = subst (λ (l : Option ℕ). IsNearest at (λ y. R y x) (λ a b. R b a) l) some.1 (linked.back j x at_j) in
        let of_j = found at (λ y. R near.0 y) R (after some.0) (linked.ahead some.0 near.0 near.1) j x at_j near.2 in
        let of_k = found at (λ y. R near.0 y) R (after some.0) (linked.ahead some.0 near.0 near.1) k x at_k near.2 in
        let same : of_j.first ≡ of_k.first = some_same (sym of_j.is ∙ of_k.is) in
        let never : (l : ℕ) (z : _) → at l z → R near.0 z → R z x → ⊥ = λ l z lies more less.
        elim (near.3 l z lies less) [
          | inl here ↦ order.never near.0 (subst (λ w. R near.0 w) (one some.0 z near.0 (subst (λ (n : ℕ). at n z) here lies) near.1) more)
          | inr back ↦ order.never near.0 (order.trans near.0 z near.0 more back)
        ] in
        elim of_j.reached [
          | inl here ↦ elim of_k.reached [
            | inl there ↦ here ∙ same ∙ sym there
            | inr less ↦ absurd (never of_k.first of_k.near of_k.lies of_k.holds less)
          ]
          | inr less ↦ absurd (never of_j.first of_j.near of_j.lies of_j.holds less)
        ]

pub stands_once : (records : Slab EdgeRecord) (waiting : List ℕ) → AreAtKeys (StandsAt records waiting)
stands_once records waiting k x y at_x at_y = some_same (sym at_x.0 ∙ at_y.0)

module _ (side : Side) (objects : List ObjectRecord) (records : Slab EdgeRecord) (waiting : List ℕ) (chained : AreChained side objects records waiting) where
  order : IsOrder (owner_of side) (Precedes side)
  order = side_order side

  -- what follows a place from which the edge is to be found stands in the edge's list
  pub next_stands : (edge : Edge) (place : Option ℕ) → IsStart side records waiting edge place → (next : ℕ) → next_of side objects records (owner_of side edge) place ≡ Some next
      → (other : Edge) × StandsAt records waiting next other × (owner_of side other ≡ owner_of side edge)
  next_stands edge None start next is =
      let near = subst (λ (l : Option ℕ). IsNearest (StandsAt records waiting) (λ y. owner_of side y ≡ owner_of side edge) (Precedes side) l) is (chained.heads (owner_of side edge)) in
      (near.0, near.1, near.2)
  next_stands edge (Some place) start next is =
      let near = subst (λ (l : Option ℕ). IsNearest (StandsAt records waiting) (λ y. Precedes side start.0 y) (Precedes side) l) is (chained.ahead place start.0 start.1) in
      (near.0, near.1, sym near.2.0 ∙ start.2.0)

  -- the place is right where what follows it isn't before the edge
  pub place_here : (edge : Edge) (place next : Option ℕ) → IsStart side records waiting edge place → next_of side objects records (owner_of side edge) place ≡ next
      → IsPast side records edge next → IsPlace side records waiting edge place
  place_here edge None next start is past = λ key item lies less.
      let at = found (StandsAt records waiting) (λ y. owner_of side y ≡ owner_of side edge) (Precedes side) (head_of side objects (owner_of side edge)) (chained.heads (owner_of side edge)) key item lies less.0 in
      let not_past = subst (λ (l : Option ℕ). IsPast side records edge l) (sym is ∙ at.is) past in
      not_past at.near at.lies.0 (elim at.reached [
        | inl here ↦ subst (λ (x : Edge). Precedes side x edge) (stands_once records waiting at.first item at.near (subst (λ (n : ℕ). StandsAt records waiting n item) here lies) at.lies) less
        | inr more ↦ order.trans at.near item edge more less
      ])
  place_here edge (Some place) next start is past = (
    start.0,
    start.1,
    start.2,
    λ key item lies less.
        elim (order.total item start.0 (less.0 ∙ sym start.2.0)) [
          | inl before ↦ inr before
          | inr others ↦ elim others [
            | inl equal ↦ inl (apart (owner_of side) (Precedes side) order (StandsAt records waiting) (link_at side After records) (link_at side Before records) (head_of side objects)
                chained (stands_once records waiting) key place start.0 (subst (λ (x : Edge). StandsAt records waiting key x) equal lies) start.1)
            | inr behind ↦
                let at = found (StandsAt records waiting) (λ y. Precedes side start.0 y) (Precedes side) (link_at side After records place) (chained.ahead place start.0 start.1) key item lies behind in
                let not_past = subst (λ (l : Option ℕ). IsPast side records edge l) (sym is ∙ at.is) past in
                absurd (not_past at.near at.lies.0 (elim at.reached [
                  | inl here ↦ subst (λ (x : Edge). Precedes side x edge) (stands_once records waiting at.first item at.near (subst (λ (n : ℕ). StandsAt records waiting n item) here lies) at.lies) less
                  | inr more ↦ order.trans at.near item edge more less
                ]))
          ]
        ],
  )

  -- an edge that follows a place comes behind the edge of the place
  pub nearer : (edge : Edge) (place : Option ℕ) → IsStart side records waiting edge place → (next : ℕ) → next_of side objects records (owner_of side edge) place ≡ Some next
      → (e : Edge) → LiesAt records next e → (p : ℕ) → place ≡ Some p → (x : Edge) × LiesAt records p x × (side_cmp side x e ≡ Less)
  nearer edge None start next is e lies p at = absurd (none_some at)
  nearer edge (Some place) start next is e lies p at =
      let near = subst (λ (l : Option ℕ). IsNearest (StandsAt records waiting) (λ y. Precedes side start.0 y) (Precedes side) l) is (chained.ahead place start.0 start.1) in
      let same : near.0 ≡ e = some_same (sym near.1.0 ∙ lies) in
      (start.0, subst (λ (n : ℕ). LiesAt records n start.0) (some_same at) start.1.0, subst (λ (x : Edge). side_cmp side start.0 x ≡ Less) same near.2.1)

pub past_record : (side : Side) (records : Slab EdgeRecord) (edge : Edge) (key : ℕ) (r : EdgeRecord) → get records key ≡ Some r → (¬ Precedes side r.edge edge)
    → IsPast side records edge (Some key)
past_record side records edge key r got not_before other lies less =
    let same : other ≡ r.edge = some_same (sym lies ∙ ap edge_in got) in
    not_before (subst (λ (x : Edge). Precedes side x edge) same less)

pub no_record : (records : Slab EdgeRecord) (waiting : List ℕ) (key : ℕ) (e : Edge) → get records key ≡ None → StandsAt records waiting key e → ⊥
no_record records waiting key e got stands = none_some (sym (ap edge_in got) ∙ stands.0)

-- ---- how many records lie behind a place
abbrev is_less : Ordering → Bool
is_less Less = true
is_less Equal = false
is_less Greater = false

abbrev is_behind : Side → Edge → Option EdgeRecord → Bool
is_behind side edge None = false
is_behind side edge (Some r) = is_less (side_cmp side edge r.edge)

abbrev pub behind : Side → Slab EdgeRecord → Option Edge → ℕ
behind side records None = 0
behind side records (Some edge) = count_by (is_behind side edge) records.slots

abbrev pub behind_place : Side → Slab EdgeRecord → Option ℕ → ℕ
behind_place side records None = length records.slots + 1
behind_place side records (Some key) = behind side records (edge_in (get records key))

count-le : {X : Type 0} (p q : X → Bool) (xs : List X) → ((x : X) → q x ≡ true → p x ≡ true) → count_by q xs ≤ count_by p xs
count-le p q [] within = omega arith
count-le p q (x ∷ xs) within =
    let rest = count-le p q xs within in
    let of_p = sum_by-cons (λ y. cond (p y) 1 0) x xs in
    let of_q = sum_by-cons (λ y. cond (q y) 1 0) x xs in
    elim (q x) as (λ b. q x ≡ b → count_by q (x ∷ xs) ≤ count_by p (x ∷ xs)) [
      | true ↦ λ is.
          let one : ◌≡◌ {A = ℕ} (cond (q x) 1 0) 1 = ap (λ b. cond b 1 0) is in
          let also : ◌≡◌ {A = ℕ} (cond (p x) 1 0) 1 = ap (λ b. cond b 1 0) (within x is) in
          omega (arith, rest, of_p, of_q, one, also)
      | false ↦ λ is.
          let none : ◌≡◌ {A = ℕ} (cond (q x) 1 0) 0 = ap (λ b. cond b 1 0) is in
          omega (arith, rest, of_p, of_q, none)
    ] refl

pub count-less : {X : Type 0} (p q : X → Bool) (xs : List X) → ((x : X) → q x ≡ true → p x ≡ true) → (k : ℕ) (d : X) → k < length xs
    → p (get_or xs k d) ≡ true → q (get_or xs k d) ≡ false → count_by q xs < count_by p xs
count-less p q [] within k d lt is_p not_q = absurd (omega arith)
count-less p q (x ∷ xs) within zero d lt is_p not_q =
    let rest = count-le p q xs within in
    let of_p = sum_by-cons (λ y. cond (p y) 1 0) x xs in
    let of_q = sum_by-cons (λ y. cond (q y) 1 0) x xs in
    let one : ◌≡◌ {A = ℕ} (cond (p x) 1 0) 1 = ap (λ b. cond b 1 0) is_p in
    let none : ◌≡◌ {A = ℕ} (cond (q x) 1 0) 0 = ap (λ b. cond b 1 0) not_q in
    omega (arith, rest, of_p, of_q, one, none)
count-less p q (x ∷ xs) within (suc k) d lt is_p not_q =
    let rest = count-less p q xs within k d (omega arith) is_p not_q in
    let head = count-le p q (x ∷ []) within in
    let of_p = sum_by-cons (λ y. cond (p y) 1 0) x xs in
    let of_q = sum_by-cons (λ y. cond (q y) 1 0) x xs in
    let of_p1 = sum_by-cons (λ y. cond (p y) 1 0) x [] in
    let of_q1 = sum_by-cons (λ y. cond (q y) 1 0) x [] in
    omega (arith, rest, head, of_p, of_q, of_p1, of_q1)

less_true : (o : Ordering) → is_less o ≡ true → o ≡ Less
less_true Less h = refl
less_true Equal h = absurd (true≢false (sym h))
less_true Greater h = absurd (true≢false (sym h))

pub key_within : (records : Slab EdgeRecord) (key : ℕ) (edge : Edge) → LiesAt records key edge → key < length records.slots
key_within records key edge lies = elim (cases_lt key (length records.slots)) [
  | inl lt ↦ lt
  | inr ge ↦ let none : edge_in (get records key) ≡ None = ap edge_in (get_or_past records.slots key None ge) in absurd (none_some (sym none ∙ lies))
]

-- fewer lie behind what follows
pub fewer_behind : (side : Side) (records : Slab EdgeRecord) (a b : Edge) (key : ℕ) → LiesAt records key b → side_cmp side a b ≡ Less
    → behind side records (Some b) < behind side records (Some a)
fewer_behind side records a b key lies less =
    count-less (is_behind side a) (is_behind side b) records.slots further key None (key_within records key b lies) (at (get records key) lies).0 (at (get records key) lies).1
  where
    further : (x : Option EdgeRecord) → is_behind side b x ≡ true → is_behind side a x ≡ true
    further None h = absurd (true≢false (sym h))
    further (Some r) h = ap is_less ((side_total side).trans a b r.edge less (less_true (side_cmp side b r.edge) h))

    at : (slot : Option EdgeRecord) → edge_in slot ≡ Some b → (is_behind side a slot ≡ true) × (is_behind side b slot ≡ false)
    at None is = absurd (none_some is)
    at (Some r) is =
        let same : r.edge ≡ b = some_same is in
        (ap (λ e. is_less (side_cmp side a e)) same ∙ ap is_less less, ap (λ e. is_less (side_cmp side b e)) same ∙ ap is_less (cmp_self side b))

pub fewer_from : (side : Side) (records : Slab EdgeRecord) (place : Option ℕ) (next : ℕ) (edge : Edge) → LiesAt records next edge
    → ((p : ℕ) → place ≡ Some p → (x : Edge) × LiesAt records p x × (side_cmp side x edge ≡ Less))
    → behind_place side records (Some next) < behind_place side records place
fewer_from side records None next edge lies nearer =
    let here : behind_place side records (Some next) ≡ behind side records (Some edge) = ap (behind side records) lies in
    omega (arith, here, count_by-le-length (is_behind side edge) records.slots)
fewer_from side records (Some place) next edge lies nearer =
    let x = nearer place refl in
    let here : behind_place side records (Some next) ≡ behind side records (Some edge) = ap (behind side records) lies in
    let there : behind_place side records (Some place) ≡ behind side records (Some x.0) = ap (behind side records) x.1 in
    omega (arith, here, there, fewer_behind side records x.0 edge next lies x.2)
