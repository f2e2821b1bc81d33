-- Chains of places: made from the first edge on, and followed from the last one.
use Rattle.std.proofs.Common.{◌≡◌, ◌⊎◌, ◌↔◌, ℕ, ◌+◌, ◌-◌, ◌%◌, ◌<◌, ◌≤◌, ◌==◌, Bool, false, Less, inl, inr, List, [], ◌∷◌, ◌++◌, length, get_or, set, replicate, AllPairs, Contains, refl, sym, ap, ◌∙◌, subst, arith, length-set}
use Rattle.std.proofs.lemmas.Bool.{cases_eq, cases_lt, true≢false}
use Rattle.std.proofs.lemmas.Grind.{get_or-set_at}
use Rattle.std.proofs.lemmas.List.{get_or-replicate, length-replicate, get_or-set_other, get_or_append_left, get_or-append_right, length_push, get_or_default}
use Rattle.std.proofs.lemmas.List.Elements.{All-append, All-cons, All-nil, Contains-append_left, Contains-push, Contains-push_cases}
use Rattle.std.proofs.Math.Nat.{mod-lt}
use Rattle.lore_base.specs.Walks.{edge_cmp}
use Rattle.lore_base.proofs.MemberLaws.{Contains-none}
use Rattle.lore_base.proofs.ListLaws.{AllPairs-append}
use Rattle.edge_lists.specs.Commits.{ArePlaces}
use Rattle.edge_layers.specs.Types.{Oid, Edge, In}
use Rattle.edge_layers.specs.Turned.{turn}
use Rattle.edge_layers.proofs.LayerLaws.{number_is}
use Rattle.edge_layers.specs.inside.Chains.{child_of, label_of, slot_among, IsLast, AreHeads, AreBack, AreChains, IsEnteringRun, ArePutFrom}

module _ (slot_of : Edge → ℕ) (edges : List Edge) where
  -- before the first edge there is none
  last_none : (slot last : ℕ) → last ≡ 0 → IsLast slot_of edges slot 0 last
  last_none slot last none = record {
    within = omega arith;
    none = λ k d from below. absurd (omega arith);
    found = λ above d. absurd (omega arith);
  }

  pub heads_none : (count : ℕ) (heads : List ℕ) → heads ≡ replicate count 0 → AreHeads slot_of edges heads 0
  heads_none count heads is slot low =
      let inside : slot < count = omega (arith, low, ap length is, length-replicate {A = ℕ} count 0) in
      last_none slot (get_or heads slot 0) (ap (λ (l : List ℕ). get_or l slot 0) is ∙ get_or-replicate {A = ℕ} count slot 0 0 inside)

  pub back_none : (back : List ℕ) → back ≡ [] → AreBack slot_of edges back 0
  back_none back none = record { each = λ k d below. absurd (omega arith); long = ap length none }

  module _ (place : ℕ) (edge : Edge) (here : (d : Edge) → get_or edges place d ≡ edge) where
    -- an edge is the last of its slot up to its own place
    last_here : (slot : ℕ) → slot_of edge ≡ slot → IsLast slot_of edges slot (place + 1) (place + 1)
    last_here slot is = record {
      within = omega arith;
      none = λ k d from below. absurd (omega arith);
      found = λ above d. (let one : place + 1 - 1 ≡ place = omega arith in ap (λ (n : ℕ). slot_of (get_or edges n d)) one ∙ ap slot_of (here d) ∙ is);
    }

    -- an edge of another slot is passed over
    last_more : (slot last : ℕ) → (slot_of edge ≡ slot → ⊥) → IsLast slot_of edges slot place last → IsLast slot_of edges slot (place + 1) last
    last_more slot last other old = record {
      within = omega (arith, old.within);
      none = λ k d from below is. elim (cases_eq k place) [
        | inl at ↦ other (sym (ap (λ (n : ℕ). slot_of (get_or edges n d)) at ∙ ap slot_of (here d)) ∙ is)
        | inr apart ↦ old.none k d from (omega (arith, below, apart)) is
      ];
      found = old.found;
    }

    -- one edge more heads its slot
    pub heads_more : (heads : List ℕ) (slot : ℕ) → slot_of edge ≡ slot → slot < length heads → AreHeads slot_of edges heads place
        → AreHeads slot_of edges (set heads slot (place + 1)) (place + 1)
    heads_more heads slot is in_heads old s low = elim (cases_eq s slot) [
      | inl at ↦ rw (get_or-set_at heads slot s (place + 1) 0 at in_heads) (last_here s (is ∙ sym at))
      | inr apart ↦
          rw (get_or-set_other heads slot s (place + 1) 0 apart)
          (last_more s (get_or heads s 0) (λ e. apart (sym e ∙ is)) (old s (omega (arith, low, length-set heads slot (place + 1)))))
    ]

    -- and behind it comes what headed it before
    pub back_more : (heads back more : List ℕ) (slot : ℕ) → slot_of edge ≡ slot → slot < length heads → more ≡ back ++ get_or heads slot 0 ∷ []
        → AreHeads slot_of edges heads place → AreBack slot_of edges back place → AreBack slot_of edges more (place + 1)
    back_more heads back more slot is in_heads pushed first old = record {
      each = λ k d below. elim (cases_eq k place) [
        | inl at ↦
            let late : length back ≤ k = omega (arith, at, old.long) in
            let zeroth : k - length back ≡ 0 = omega (arith, at, old.long) in
            let read : get_or more k 0 ≡ get_or heads slot 0
            = ap (λ (l : List ℕ). get_or l k 0) pushed ∙ get_or-append_right back (get_or heads slot 0 ∷ []) (length back) k 0 refl late
            ∙ ap (λ (n : ℕ). get_or (get_or heads slot 0 ∷ []) n 0) zeroth in
            let own : slot_of (get_or edges k d) ≡ slot = ap (λ (n : ℕ). slot_of (get_or edges n d)) at ∙ ap slot_of (here d) ∙ is in
            rw (read, own) (subst (λ (n : ℕ). IsLast slot_of edges slot n (get_or heads slot 0)) (sym at) (first slot in_heads))
        | inr apart ↦
            let early : k < length back = omega (arith, below, apart, old.long) in
            let read : get_or more k 0 ≡ get_or back k 0
            = ap (λ (l : List ℕ). get_or l k 0) pushed ∙ get_or_append_left back (get_or heads slot 0 ∷ []) 0 k early in
            rw read (old.each k d (omega (arith, below, apart)))
      ];
      long = ap length pushed ∙ length_push back (get_or heads slot 0) ∙ ap (λ (n : ℕ). n + 1) old.long;
    }

-- one edge more is linked
pub chain_step : (key : Edge → ℕ) (edges : List Edge) (count place keyed : ℕ) (e : Edge) → place < length edges → keyed ≡ key (get_or edges place e)
    → (heads back more : List ℕ) → 0 < count → length heads ≡ count → more ≡ back ++ get_or heads (keyed % count) 0 ∷ []
    → AreHeads (slot_among count key) edges heads place → AreBack (slot_among count key) edges back place
    → AreHeads (slot_among count key) edges (set heads (keyed % count) (place + 1)) (place + 1) × AreBack (slot_among count key) edges more (place + 1)
chain_step key edges count place keyed e lt is heads back more some wide pushed first old =
    let edge = get_or edges place e in
    let own : slot_among count key edge ≡ keyed % count = ap (λ (n : ℕ). n % count) (sym is) in
    let low : keyed % count < length heads = omega (arith, mod-lt keyed some, wide) in
    let here : (d : Edge) → get_or edges place d ≡ edge = λ d. get_or_default edges place d e lt in (
      heads_more (slot_among count key) edges place edge here heads (keyed % count) own low first,
      back_more (slot_among count key) edges place edge here heads back more (keyed % count) own low pushed first old,
    )

pub chains_made : (key : Edge → ℕ) (edges : List Edge) (count : ℕ) (heads back : List ℕ) → (0 < length edges → 0 < count) → length heads ≡ count
    → AreHeads (slot_among count key) edges heads (length edges) → AreBack (slot_among count key) edges back (length edges) → AreChains key edges heads back
chains_made key edges count heads back some wide first behind = record {
  some = λ lt. omega (arith, some lt, wide);
  first = subst (λ (n : ℕ). AreHeads (slot_among n key) edges heads (length edges)) (sym wide) first;
  linked = subst (λ (n : ℕ). AreBack (slot_among n key) edges back (length edges)) (sym wide) behind;
}

-- ---- the edges that enter an object
-- a list that is told not to be empty has an item
pub some_there : (n : ℕ) (test : Bool) → test ≡ (n == 0) → test ≡ false → 0 < n
some_there n test is told = elim (cases_eq n 0) [
  | inl none ↦ absurd (true≢false (sym (number_is n 0 none) ∙ sym is ∙ told))
  | inr more ↦ omega (arith, more)
]

oid_cases : (a b : Oid) → (a ≡ b) ⊎ (a ≡ b → ⊥)
oid_cases a b = elim (cases_eq a.0 b.0) [
  | inl same ↦ (let is : a ≡ b = ap (λ (n : ℕ). record { 0 = n }) same in inl is)
  | inr apart ↦ inr (λ e. apart (ap (λ (o : Oid). o.0) e))
]

-- those from a place on, turned round, while the chain of their slot is followed
pub record IsRunFrom (edges : List Edge) (oid : Oid) (count above : ℕ) (run : List Edge) : Type 0 where
  pub enter : (edge : Edge) → Contains run edge → Contains edges (turn In edge) × (edge.parent ≡ oid)
  pub all : (k : ℕ) (d : Edge) → above ≤ k → k < length edges → (get_or edges k d).child ≡ oid → Contains run (turn In (get_or edges k d))
  pub within : above ≤ length edges
  pub found : 0 < above → (d : Edge) → slot_among count child_of (get_or edges (above - 1) d) ≡ oid.0 % count

-- an edge that enters the object falls into its slot
in_slot : (oid : Oid) (count : ℕ) (edge : Edge) → edge.child ≡ oid → slot_among count child_of edge ≡ oid.0 % count
in_slot oid count edge is = ap (λ (o : Oid). o.0 % count) is

module _ (edges : List Edge) (oid : Oid) (heads back : List ℕ) (chains : AreChains child_of edges heads back) where
  pub run_start : (count above : ℕ) (run : List Edge) → 0 < length edges → count ≡ length heads → above ≡ get_or heads (oid.0 % count) 0 → run ≡ []
      → IsRunFrom edges oid (length heads) above run
  run_start count above run lt wide begins none = record {
    enter = λ edge at. absurd (Contains-none edge (subst (λ (l : List Edge). Contains l edge) none at));
    all = λ k d from in_edges is. absurd (head.none k d from in_edges (in_slot oid (length heads) (get_or edges k d) is));
    within = head.within;
    found = head.found;
  }
    where
      here : above ≡ get_or heads (oid.0 % length heads) 0
      here = begins ∙ ap (λ (n : ℕ). get_or heads (oid.0 % n) 0) wide

      head : IsLast (slot_among (length heads) child_of) edges (oid.0 % length heads) (length edges) above
      head = subst (λ (n : ℕ). IsLast (slot_among (length heads) child_of) edges (oid.0 % length heads) (length edges) n) (sym here)
          (chains.first (oid.0 % length heads) (mod-lt oid.0 (chains.some lt)))

  pub run_more : (above place next : ℕ) (e : Edge) (run more : List Edge) → 0 < above → place ≡ above - 1
      → ((get_or edges place e).child ≡ oid → more ≡ run ++ turn In (get_or edges place e) ∷ []) → (((get_or edges place e).child ≡ oid → ⊥) → more ≡ run)
      → next ≡ get_or back place 0 → IsRunFrom edges oid (length heads) above run → IsRunFrom edges oid (length heads) next more
  run_more above place next e run more some at_place enters other on old = record {
    enter = λ x at. elim (oid_cases edge.child oid) [
      | inl is ↦ elim (Contains-push_cases run (turn In edge) x (subst (λ (l : List Edge). Contains l x) (enters is) at)) [
        | inl before ↦ old.enter x before
        | inr same ↦ (subst (λ (y : Edge). Contains edges (turn In y)) same (place, lt, here edge), ap (λ (y : Edge). y.parent) (sym same) ∙ is)
      ]
      | inr apart ↦ old.enter x (subst (λ (l : List Edge). Contains l x) (other apart) at)
    ];
    all = λ k d from in_edges own. elim (cases_lt k place) [
      | inl early ↦ absurd (last.none k d from early (in_slot oid (length heads) (get_or edges k d) own ∙ sym slot))
      | inr late ↦ elim (cases_eq k place) [
        | inl at ↦
            let is : get_or edges k d ≡ edge = ap (λ (n : ℕ). get_or edges n d) at ∙ here d in
            subst (λ (x : Edge). Contains more (turn In x)) (sym is) (new (ap (λ (x : Edge). x.child) (sym is) ∙ own))
        | inr apart ↦ kept (turn In (get_or edges k d)) (old.all k d (omega (arith, late, apart, one)) in_edges own)
      ]
    ];
    within = omega (arith, last.within, lt);
    found = λ later d. last.found later d ∙ slot;
  }
    where
      edge : Edge
      edge = get_or edges place e

      one : above ≡ place + 1
      one = omega (arith, some, at_place)

      lt : place < length edges
      lt = omega (arith, one, old.within)

      here : (d : Edge) → get_or edges place d ≡ edge
      here d = get_or_default edges place d e lt

      slot : slot_among (length heads) child_of edge ≡ oid.0 % length heads
      slot = ap (λ (n : ℕ). slot_among (length heads) child_of (get_or edges n e)) at_place ∙ old.found some e

      last : IsLast (slot_among (length heads) child_of) edges (slot_among (length heads) child_of edge) place next
      last = subst (λ (n : ℕ). IsLast (slot_among (length heads) child_of) edges (slot_among (length heads) child_of edge) place n) (sym on)
          (chains.linked.each place e lt)

      new : edge.child ≡ oid → Contains more (turn In edge)
      new is = subst (λ (l : List Edge). Contains l (turn In edge)) (sym (enters is)) (Contains-push run (turn In edge))

      kept : (x : Edge) → Contains run x → Contains more x
      kept x at = elim (oid_cases edge.child oid) [
        | inl is ↦ subst (λ (l : List Edge). Contains l x) (sym (enters is)) (Contains-append_left run (turn In edge ∷ []) x at)
        | inr apart ↦ subst (λ (l : List Edge). Contains l x) (sym (other apart)) at
      ]

pub run_none : (edges run : List Edge) (oid : Oid) → edges ≡ [] → run ≡ [] → IsEnteringRun edges oid run
run_none edges run oid no_edges none = record {
  ascend = subst (λ (l : List Edge). AllPairs (λ a b. edge_cmp a b ≡ Less) l) (sym none) (λ i j d lt len. absurd (omega (arith, len)));
  exact = λ edge. (
    λ at. absurd (Contains-none edge (subst (λ (l : List Edge). Contains l edge) none at)),
    λ both. absurd (Contains-none (turn In edge) (subst (λ (l : List Edge). Contains l (turn In edge)) no_edges both.0)),
  );
}

pub run_whole : (edges run sorted : List Edge) (oid : Oid) (count above : ℕ) → above ≡ 0 → IsRunFrom edges oid count above run → AllPairs (λ a b. edge_cmp a b ≡ Less) sorted
    → ((edge : Edge) → Contains sorted edge ↔ Contains run edge) → IsEnteringRun edges oid sorted
run_whole edges run sorted oid count above first run_is ascend members = record {
  ascend = ascend;
  exact = λ edge. (
    λ at. run_is.enter edge ((members edge).0 at),
    λ both.
        let at = both.0 in
        let own = ap (λ (x : Edge). x.child) at.2 ∙ both.1 in
        (members edge).1
        (subst (λ (x : Edge). Contains run (turn In x)) at.2 (run_is.all at.0 (turn In edge) (omega (arith, first)) at.1 own)),
  );
}

-- ---- the places of all edges
-- while the chain of a slot is followed
pub record ArePutting (slot_of : Edge → ℕ) (edges : List Edge) (slot above : ℕ) (places : List ℕ) : Type 0 where
  pub put : ArePutFrom slot_of edges slot above places
  pub within : above ≤ length edges
  pub found : 0 < above → (d : Edge) → slot_of (get_or edges (above - 1) d) ≡ slot

module _ (slot_of : Edge → ℕ) (edges : List Edge) where
  pub put_start : (count : ℕ) (places : List ℕ) → places ≡ [] → ((k : ℕ) (d : Edge) → k < length edges → slot_of (get_or edges k d) < count)
      → ArePutFrom slot_of edges count 0 places
  put_start count places none inside = subst (λ (l : List ℕ). ArePutFrom slot_of edges count 0 l) (sym none) (record {
    within = All-nil (λ (p : ℕ). p < length edges);
    once = λ i j d lt len. absurd (omega (arith, len));
    least = λ p d at. absurd (Contains-none p at);
    behind = λ p d at is. absurd (Contains-none p at);
    higher = λ p d lt more. absurd (omega (arith, more, inside p d lt));
    same = λ p d lt is from. absurd (omega (arith, is, inside p d lt));
  })

  -- no edge of a slot stands from its head on
  put_slot : (slot head : ℕ) (places : List ℕ) → IsLast slot_of edges slot (length edges) head → ArePutFrom slot_of edges (slot + 1) 0 places
      → ArePutFrom slot_of edges slot head places
  put_slot slot head places last old = record {
    within = old.within;
    once = old.once;
    least = λ p d at. omega (arith, old.least p d at);
    behind = λ p d at is. absurd (omega (arith, old.least p d at, is));
    higher = λ p d lt more. elim (cases_eq (slot_of (get_or edges p d)) (slot + 1)) [
      | inl is ↦ old.same p d lt is (omega arith)
      | inr apart ↦ old.higher p d lt (omega (arith, more, apart))
    ];
    same = λ p d lt is from. absurd (last.none p d from lt is);
  }

  put_one : (e : Edge) (slot place next : ℕ) (places : List ℕ) → place < length edges → ((d : Edge) → slot_of (get_or edges place d) ≡ slot)
      → IsLast slot_of edges slot place next → ArePutFrom slot_of edges slot (place + 1) places → ArePutFrom slot_of edges slot next (places ++ place ∷ [])
  put_one e slot place next places lt here last old = record {
    within = All-append (λ (p : ℕ). p < length edges) places (place ∷ []) old.within
        (All-cons (λ (p : ℕ). p < length edges) place [] lt (All-nil (λ (p : ℕ). p < length edges)));
    once = AllPairs-append (λ (a b : ℕ). a ≡ b → ⊥) places (place ∷ []) old.once (λ i j d less len. absurd (omega (arith, less, len)))
        (λ i j d in_places in_one equal.
        let first : j ≡ 0 = omega (arith, in_one) in
        absent (i, in_places, get_or_default places i place d in_places ∙ equal ∙ ap (λ (n : ℕ). get_or (place ∷ []) n d) first));
    least = λ p d at. elim (Contains-push_cases places place p at) [
      | inl before ↦ old.least p d before
      | inr is ↦ omega (arith, own p d is)
    ];
    behind = λ p d at is. elim (Contains-push_cases places place p at) [
      | inl before ↦ omega (arith, old.behind p d before is, last.within)
      | inr new ↦ omega (arith, new, last.within)
    ];
    higher = λ p d in_edges more. kept p (old.higher p d in_edges more);
    same = λ p d in_edges is from. elim (cases_lt p place) [
      | inl early ↦ absurd (last.none p d from early is)
      | inr late ↦ elim (cases_eq p place) [
        | inl at ↦ subst (λ (n : ℕ). Contains (places ++ place ∷ []) n) (sym at) (Contains-push places place)
        | inr apart ↦ kept p (old.same p d in_edges is (omega (arith, late, apart)))
      ]
    ];
  }
    where
      absent : Contains places place → ⊥
      absent at = omega (arith, old.behind place e at (here e))

      own : (p : ℕ) (d : Edge) → place ≡ p → slot_of (get_or edges p d) ≡ slot
      own p d is = ap (λ (n : ℕ). slot_of (get_or edges n d)) (sym is) ∙ here d

      kept : (p : ℕ) → Contains places p → Contains (places ++ place ∷ []) p
      kept p at = Contains-append_left places (place ∷ []) p at

  pub put_all : (e : Edge) (slot : ℕ) (places : List ℕ) → slot ≡ 0 → ArePutFrom slot_of edges slot 0 places → ArePlaces (length edges) places
  put_all e slot places first are = record {
    within = are.within;
    once = are.once;
    all = λ p lt. elim (cases_eq (slot_of (get_or edges p e)) 0) [
      | inl zeroth ↦ are.same p e lt (zeroth ∙ sym first) (omega arith)
      | inr more ↦ are.higher p e lt (omega (arith, more, first))
    ];
  }

module _ (edges : List Edge) (heads back : List ℕ) (chains : AreChains label_of edges heads back) where
  pub slot_start : (slot above : ℕ) (places : List ℕ) → slot < length heads → above ≡ get_or heads slot 0
      → ArePutFrom (slot_among (length heads) label_of) edges (slot + 1) 0 places → ArePutting (slot_among (length heads) label_of) edges slot above places
  slot_start slot above places low begins old =
      subst (λ (n : ℕ). ArePutting (slot_among (length heads) label_of) edges slot n places) (sym begins) (record {
        put = put_slot (slot_among (length heads) label_of) edges slot (get_or heads slot 0) places (chains.first slot low) old;
        within = (chains.first slot low).within;
        found = (chains.first slot low).found;
      })

  pub slot_more : (e : Edge) (slot above place next : ℕ) (places more : List ℕ) → 0 < above → place ≡ above - 1 → more ≡ places ++ place ∷ [] → next ≡ get_or back place 0
      → ArePutting (slot_among (length heads) label_of) edges slot above places → ArePutting (slot_among (length heads) label_of) edges slot next more
  slot_more e slot above place next places more some at_place pushed on old =
      subst (λ (l : List ℕ). ArePutting slot_of edges slot next l) (sym pushed) (record {
        put = put_one slot_of edges e slot place next places lt here last (subst (λ (n : ℕ). ArePutFrom slot_of edges slot n places) one old.put);
        within = omega (arith, last.within, lt);
        found = last.found;
      })
    where
      slot_of : Edge → ℕ
      slot_of = slot_among (length heads) label_of

      one : above ≡ place + 1
      one = omega (arith, some, at_place)

      lt : place < length edges
      lt = omega (arith, one, old.within)

      here : (d : Edge) → slot_of (get_or edges place d) ≡ slot
      here d = ap (λ (n : ℕ). slot_of (get_or edges n d)) at_place ∙ old.found some d

      last : IsLast slot_of edges slot place next
      last = subst (λ (n : ℕ). IsLast slot_of edges slot place n) (sym on)
          (subst (λ (s : ℕ). IsLast slot_of edges s place (get_or back place 0)) (here e) (chains.linked.each place e lt))

-- what a chain leads to stands before
pub leads_back : (edges : List Edge) (heads back : List ℕ) (e : Edge) → AreChains label_of edges heads back → (k : ℕ) → k < length back → get_or back k 0 ≤ k
leads_back edges heads back e chains k lt = (chains.linked.each k e (omega (arith, lt, chains.linked.long))).within
