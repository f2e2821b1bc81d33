-- The product of a graph with a machine: it leads on by an arc and a move, and its ways are walks and runs.
use Rattle.std.proofs.Common.{◌≡◌, ◌↔◌, ℕ, ◌+◌, ◌<◌, ◌≤◌, ◌⊎◌, inl, inr, true, false, cond, List, [], ◌∷◌, ◌++◌, map, reverse, length, get_or, Result, All, AllPairs, Contains, refl, sym, ap, ◌∙◌, subst, arith}
use Rattle.std.specs.List.{sum_by}
use Rattle.std.specs.Ordering.{nat_cmp}
use Rattle.std.specs.Result.{OnOk}
use Rattle.std.specs.declared.cmp.Ordering.TheVariants.{Less}
use Rattle.std.proofs.lemmas.Result.{on_ok_weaker}
use Rattle.std.proofs.lemmas.List.{append-nil, append_assoc, reverse-append, reverse-reverse}
use Rattle.std.proofs.lemmas.List.Elements.{Contains-append_left, Contains-append_right, Contains-push, Contains-push_cases}
use Rattle.std.proofs.lemmas.Option.{slice_get_within}
use Rattle.lore_base.specs.Lists.{ExtendsBy}
use Rattle.lore_base.specs.TargetSets.{ListsInOrder}
use Rattle.lore_base.specs.Walks.{Walk, edge_of}
use Rattle.lore_base.proofs.TargetLaws.{ListsInOrder-same}
use Rattle.lore_base.proofs.MemberLaws.{Contains-none, Contains-head, Contains-cases}
use Rattle.lore_base.proofs.WalkLaws.{Walk-push}
use Rattle.list_laws.proofs.OrderLaws.{less_from_cmp}
use Rattle.graph_search.specs.Closures.{IsMet, LeadAlong, IsLedTo, LeadsFromPlace, IsClosure, Lists}
use Rattle.graph_search.proofs.MeetingLaws.{IsMet-none, IsMet-one, IsMet-append_left, IsMet-append_right, IsMet-append_cases}
use Rattle.graph_search.proofs.PriceLaws.{IsPriced, sum_by-places}
use Rattle.path_expr.specs.Machines.{Machine, IsIn, IsBounded, Moves, MovesThrough, Accepts, ReadsBackwards, StepsTo, IsStep, reads_on}
use Rattle.path_expr.proofs.ReadsOnLaws.{reads_on-false, reads_on-true}
use Rattle.product_walk.specs.Types.{Oid, Label, Edge, States, StateMarks, END}
use Rattle.product_walk.specs.ProductWalks.{IsWalked, WalksInto, IsAcceptedFrom, IsAcceptedInto, TakesReads}
use Rattle.product_walk.specs.inside.Arcs.{along, against, WalkBy, AreArcs}
use Rattle.product_walk.specs.inside.Products.{Leads, CanBe, IsNext, ReadsTurned, ReadsInto}
use Rattle.product_walk.specs.inside.StateSets.{HasState, marks}

-- far ends that are listed edge by edge
module _ (labels : List (List ℕ)) (machine : Machine) (far : Edge → Oid) (states : States) where
  pub ends_none : (out : List (Oid × StateMarks)) → Lists HasState (IsNext labels machine far [] states) out out
  ends_none out = record {
    more = [];
    is = sym (append-nil out);
    exact = λ there. (λ met. absurd (IsMet-none HasState there met), λ next. absurd (Contains-none next.0 next.1));
  }

  next_earlier : (edges : List Edge) (edge : Edge) (there : Oid × ℕ) → IsNext labels machine far edges states there → IsNext labels machine far (edges ++ edge ∷ []) states there
  next_earlier edges edge there next = (next.0, Contains-append_left edges (edge ∷ []) next.0 next.1, next.2, next.3)

  -- the ends of the next edge behind those of the others
  pub ends_more : (edges : List Edge) (edge : Edge) (end : Oid) (after : States) (old middle new : List (Oid × StateMarks)) → IsStep labels machine states edge.label after
      → end ≡ far edge → Lists HasState (IsNext labels machine far edges states) old middle → Lists HasState (λ there. (there.0 ≡ end) × IsIn after there.1) middle new
      → Lists HasState (IsNext labels machine far (edges ++ edge ∷ []) states) old new
  ends_more edges edge end after old middle new step is earlier now = record {
    more = earlier.more ++ now.more;
    is = now.is ∙ ap (λ l. l ++ now.more) earlier.is ∙ append_assoc old earlier.more now.more;
    exact = λ there. (
      λ met. elim (IsMet-append_cases HasState earlier.more now.more there met) [
        | inl front ↦ next_earlier edges edge there ((earlier.exact there).0 front)
        | inr back ↦ (
          edge,
          Contains-push edges edge,
          sym (((now.exact there).0 back).0 ∙ is),
          (step there.1).0 ((now.exact there).0 back).1,
        )
      ],
      λ next. elim (Contains-push_cases edges edge next.0 next.1) [
        | inl front ↦ IsMet-append_left HasState earlier.more now.more there ((earlier.exact there).1 (next.0, front, next.2, next.3))
        | inr same ↦ IsMet-append_right HasState earlier.more now.more there ((now.exact there).1 (
          sym (is ∙ ap far same ∙ next.2),
          (step there.1).1 (subst (λ (e : Edge). StepsTo labels machine states e.label there.1) (sym same) next.3),
        ))
      ],
    );
  }

-- an object under states, or nothing
pub end_none : (oid : Oid) (states : States) (out : List (Oid × StateMarks)) → ((state : ℕ) → IsIn states state → ⊥)
    → Lists HasState (λ there. (there.0 ≡ oid) × IsIn states there.1) out out
end_none oid states out empty = record {
  more = [];
  is = sym (append-nil out);
  exact = λ there. (λ met. absurd (IsMet-none HasState there met), λ h. absurd (empty there.1 h.1));
}

pub end_one : (oid : Oid) (states : States) (out : List (Oid × StateMarks))
    → Lists HasState (λ there. (there.0 ≡ oid) × IsIn states there.1) out (out ++ (oid, marks states) ∷ [])
end_one oid states out = record {
  more = (oid, marks states) ∷ [];
  is = refl;
  exact = IsMet-one HasState (oid, marks states);
}

-- objects that are met at the end, place by place
pub ended_more : (places : List (Oid × StateMarks)) (place : Oid × StateMarks) (old new : List Oid)
    → ((oid : Oid) → Contains old oid ↔ IsMet HasState places (oid, END))
    → ((oid : Oid) → Contains new oid ↔ (Contains old oid ⊎ ((oid ≡ place.0) × IsIn (place.1).0 END)))
    → (oid : Oid) → Contains new oid ↔ IsMet HasState (places ++ place ∷ []) (oid, END)
ended_more places place old new earlier now oid = (
  λ h. elim ((now oid).0 h) [
    | inl front ↦ IsMet-append_left HasState places (place ∷ []) (oid, END) ((earlier oid).0 front)
    | inr back ↦ IsMet-append_right HasState places (place ∷ []) (oid, END) ((IsMet-one HasState place (oid, END)).1 back)
  ],
  λ met. (now oid).1 (elim (IsMet-append_cases HasState places (place ∷ []) (oid, END) met) [
    | inl front ↦ inl ((earlier oid).1 front)
    | inr back ↦ inr ((IsMet-one HasState place (oid, END)).0 back)
  ]),
)

module _ (labels : List (List ℕ)) (machine : Machine) (goes : Oid → Label → Oid → Type 0) where
  -- what the edges of an object lead to is what the place leads to
  pub leads_on-arcs : (far : Edge → Oid) (oid : Oid) (states : States) (edges : List Edge) (old new : List (Oid × StateMarks)) → AreArcs goes far oid edges
      → Lists HasState (IsNext labels machine far edges states) old new → Lists HasState (LeadsFromPlace HasState (Leads labels machine goes) (oid, marks states)) old new
  leads_on-arcs far oid states edges old new arcs lists = record {
    more = lists.more;
    is = lists.is;
    exact = λ there. (
      λ met.
          let next = (lists.exact there).0 met in
          (next.3.0, next.3.1, ((next.0).label, (arcs (next.0).label there.0).1 (next.0, next.1, refl, next.2), next.3.2)),
      λ leads.
          let edge = (arcs leads.2.0 there.0).0 leads.2.1 in
          (lists.exact there).1 (edge.0, edge.1, edge.3, (leads.0, leads.1, subst (λ l. Moves labels machine leads.0 l there.1) (sym edge.2) leads.2.2)),
    );
  }

  -- at the end alone nothing is led to
  pub leads_on-end : (oid : Oid) (states : States) (out : List (Oid × StateMarks)) → IsBounded machine → reads_on states ≡ false
      → Lists HasState (LeadsFromPlace HasState (Leads labels machine goes) (oid, marks states)) out out
  leads_on-end oid states out bounded ended = record {
    more = [];
    is = sym (append-nil out);
    exact = λ there. (
      λ met. absurd (IsMet-none HasState there met),
      λ leads.
          let read = leads.2.2.0 in
          let within : leads.0 < length machine.leaves = slice_get_within machine.leaves leads.0 read.0 read.1 in
          absurd (reads_on-false states ended leads.0 (omega (arith, within, bounded.few)) leads.1),
    );
  }

  -- a way through the product is a walk and a run
  word_of : (way : List (Oid × ℕ)) (here there : Oid × ℕ) → LeadAlong (Leads labels machine goes) here way there
      → (word : List Label) × MovesThrough labels machine here.1 word there.1 × WalkBy goes here.0 word there.0
  word_of [] here there same = ([], ap (λ p. p.1) same, ap (λ p. p.0) same)
  word_of (next ∷ way) here there along =
      let step = along.0 in
      let rest = word_of way next there along.1 in
      (step.0 ∷ rest.0, (next.1, step.2, rest.1), (next.0, step.1, rest.2))

  way_of : (word : List Label) (here there : Oid × ℕ) → MovesThrough labels machine here.1 word there.1 → WalkBy goes here.0 word there.0
      → (way : List (Oid × ℕ)) × LeadAlong (Leads labels machine goes) here way there
  way_of [] here there runs walked = ([], λ i. (walked i, runs i))
  way_of (label ∷ word) here there runs walked =
      let next : Oid × ℕ = (walked.0, runs.0) in
      let rest = way_of word next there runs.2 walked.2 in
      (next ∷ rest.0, ((label, walked.1, runs.1), rest.1))

  pub led_by_words : (Starts : Oid × ℕ → Type 0) (there : Oid × ℕ) → IsLedTo (Leads labels machine goes) Starts there ↔ CanBe labels machine goes Starts there
  led_by_words Starts there = (
    λ led. (let word = word_of led.1 led.0 there led.3 in (led.0, word.0, led.2, word.1, word.2)),
    λ can. (let way = way_of can.1 can.0 there can.3 can.4 in (can.0, way.0, can.2, way.1)),
  )

-- all of some objects under the same states
pub starting_at : (oids : List Oid) (states : States) (there : Oid × ℕ)
    → IsMet HasState (map (λ oid. (oid, marks states)) oids) there ↔ (Contains oids there.0 × IsIn states there.1)
starting_at [] states there = (λ met. absurd (IsMet-none HasState there met), λ h. absurd (Contains-none there.0 h.0))
starting_at (oid ∷ oids) states there =
    let others : List (Oid × StateMarks) = map (λ o. (o, marks states)) oids in (
      λ met. elim (IsMet-append_cases HasState ((oid, marks states) ∷ []) others there met) [
        | inl first ↦ (
          subst (λ o. Contains (oid ∷ oids) o) (sym ((IsMet-one HasState (oid, marks states) there).0 first).0) (Contains-head oid oids),
          ((IsMet-one HasState (oid, marks states) there).0 first).1,
        )
        | inr later ↦ (Contains-append_right (oid ∷ []) oids there.0 ((starting_at oids states there).0 later).0, ((starting_at oids states there).0 later).1)
      ],
      λ h. elim (Contains-cases oid oids there.0 h.0) [
        | inl same ↦ IsMet-append_left HasState ((oid, marks states) ∷ []) others there ((IsMet-one HasState (oid, marks states) there).1 (sym same, h.1))
        | inr later ↦ IsMet-append_right HasState ((oid, marks states) ∷ []) others there ((starting_at oids states there).1 (later, h.1))
      ],
    )

module _ (edges : List Edge) where
  Walk-along : (word : List Label) (x y : Oid) → WalkBy (along edges) x word y → Walk edges x word y
  Walk-along [] x y walked = walked
  Walk-along (label ∷ word) x y walked = (walked.0, walked.1, Walk-along word walked.0 y walked.2)

  along-Walk : (word : List Label) (x y : Oid) → Walk edges x word y → WalkBy (along edges) x word y
  along-Walk [] x y walked = walked
  along-Walk (label ∷ word) x y walked = (walked.0, walked.1, along-Walk word walked.0 y walked.2)

  WalkBy-push : (word : List Label) (label : Label) (x y z : Oid) → WalkBy (against edges) x word y → Contains edges (edge_of z label y)
      → WalkBy (against edges) x (word ++ label ∷ []) z
  WalkBy-push [] label x y z same arc = (z, subst (λ o. Contains edges (edge_of z label o)) (sym same) arc, refl)
  WalkBy-push (early ∷ word) label x y z walked arc = (walked.0, walked.1, WalkBy-push word label walked.0 y z walked.2 arc)

  Walk-against : (word : List Label) (x y : Oid) → WalkBy (against edges) y word x → Walk edges x (reverse word) y
  Walk-against [] x y same = sym same
  Walk-against (label ∷ word) x y walked =
      subst (λ w. Walk edges x w y) (sym (reverse-append (label ∷ []) word))
      (Walk-push edges x (reverse word) walked.0 label y (Walk-against word x walked.0 walked.2) walked.1)

  against-Walk : (word : List Label) (x y : Oid) → Walk edges x word y → WalkBy (against edges) y (reverse word) x
  against-Walk [] x y same = sym same
  against-Walk (label ∷ word) x y walked =
      subst (λ w. WalkBy (against edges) y w x) (sym (reverse-append (label ∷ []) word))
      (WalkBy-push (reverse word) label y walked.0 x (against-Walk word walked.0 y walked.2) walked.1)

  -- along the edges from one start
  module _ (labels : List (List ℕ)) (machine : Machine) (from : Oid) where
    pub ends_along : (oid : Oid) → CanBe labels machine (along edges) (λ there. Contains (from ∷ []) there.0 × IsIn machine.start there.1) (oid, END)
        ↔ IsAcceptedFrom labels edges machine from oid
    ends_along oid = (
      λ can. (can.1, (((can.0).1, can.2.1, can.3), subst (λ o. Walk edges o can.1 oid) (only (can.0).0 can.2.0) (Walk-along can.1 (can.0).0 oid can.4))),
      λ accepted. ((from, ((accepted.1).0).0), accepted.0, (Contains-head from [], ((accepted.1).0).1), ((accepted.1).0).2, along-Walk accepted.0 from oid (accepted.1).1),
    )
      where
        only : (start : Oid) → Contains (from ∷ []) start → start ≡ from
        only start among = elim (Contains-cases from [] start among) [ inl same ↦ sym same | inr none ↦ absurd (Contains-none start none) ]

    pub walked_along : (there : Oid × ℕ) → CanBe labels machine (along edges) (λ t. Contains (from ∷ []) t.0 × IsIn machine.start t.1) there → IsWalked edges from there.0
    walked_along there can = elim (Contains-cases from [] (can.0).0 can.2.0) [
      | inl same ↦ (can.1, subst (λ o. Walk edges o can.1 there.0) (sym same) (Walk-along can.1 (can.0).0 there.0 can.4))
      | inr none ↦ absurd (Contains-none (can.0).0 none)
    ]

  -- against the edges from some starts, by a machine that reads words backwards
  module _ (labels : List (List ℕ)) (turned : Machine) (to : List Oid) where
    pub ends_against : (oid : Oid)
        → CanBe labels turned (against edges) (λ there. Contains to there.0 × IsIn turned.start there.1) (oid, END) ↔ ReadsInto edges (ReadsTurned labels turned) to oid
    ends_against oid = (
      λ can.
          let accepted = subst (Accepts labels turned) (sym (reverse-reverse can.1)) ((can.0).1, can.2.1, can.3) in
          ((can.0).0, can.2.0, (reverse can.1, accepted, Walk-against can.1 oid (can.0).0 can.4)),
      λ into.
          let word : List Label = into.2.0 in
          let accepted = into.2.1 in
          ((into.0, accepted.0), reverse word, (into.1, accepted.1), accepted.2, against-Walk word oid into.0 into.2.2),
    )

    pub walked_against : (there : Oid × ℕ) → CanBe labels turned (against edges) (λ t. Contains to t.0 × IsIn turned.start t.1) there → WalksInto edges to there.0
    walked_against there can = ((can.0).0, can.2.0, (reverse can.1, Walk-against can.1 there.0 (can.0).0 can.4))

  -- words that pass alike are walked alike
  pub reads_alike : (P Q : List Label → Type 0) (to : List Oid) → ((word : List Label) → P word ↔ Q word) → (oid : Oid) → ReadsInto edges P to oid ↔ ReadsInto edges Q to oid
  reads_alike P Q to same oid = (
    λ h. (h.0, h.1, (h.2.0, (same h.2.0).0 h.2.1, h.2.2)),
    λ h. (h.0, h.1, (h.2.0, (same h.2.0).1 h.2.1, h.2.2)),
  )

-- a word that is read backwards twice is read as it stands
pub turned_accepts : (labels : List (List ℕ)) (machine turned : Machine) → ReadsBackwards machine turned
    → (word : List Label) → ReadsTurned labels turned word ↔ Accepts labels machine word
turned_accepts labels machine turned turns word = (
  λ h. subst (Accepts labels machine) (reverse-reverse word) ((turns labels (reverse word)).0 h),
  λ h. (turns labels (reverse word)).1 (subst (Accepts labels machine) (sym (reverse-reverse word)) h),
)

-- what a turned machine reads backwards into some objects, the machine accepts
pub accepted_into : (edges : List Edge) (labels : List (List ℕ)) (machine turned : Machine) (to : List Oid) → ReadsBackwards machine turned
    → (oid : Oid) → ReadsInto edges (ReadsTurned labels turned) to oid ↔ IsAcceptedInto labels edges machine to oid
accepted_into edges labels machine turned to turns oid = (
  λ h. (h.0, h.1, (h.2.0, ((turned_accepts labels machine turned turns h.2.0).0 h.2.1, h.2.2))),
  λ h. (h.0, h.1, (h.2.0, (turned_accepts labels machine turned turns h.2.0).1 (h.2.1).0, (h.2.1).1)),
)

-- a search reads at most once for each object and state
pub takes_reads : (reads most : Oid → ℕ) (Passes : Oid → Type 0) (met : List (Oid × StateMarks)) (leads : Oid × ℕ → Oid × ℕ → Type 0) (starts : List (Oid × StateMarks))
    (before after : ℕ) → ((oid : Oid) → reads oid ≤ most oid) → IsClosure HasState leads starts met
    → ((there : Oid × ℕ) → IsMet HasState met there → Passes there.0)
    → after ≡ before + sum_by (λ place. cond (reads_on (place.1).0) (reads place.0) 0) met → TakesReads most Passes before after
takes_reads reads most Passes met leads starts before after few closure passes spent all whole =
    let cost : Oid × StateMarks → ℕ = λ place. cond (reads_on (place.1).0) (reads place.0) 0 in
    let priced : All (IsPriced HasState (END + 1) most cost) met = λ k d within. price (get_or met k d) in
    omega (arith, spent, sum_by-places HasState (END + 1) most cost met closure.apart priced all (λ there at. whole there.0 (passes there at)))
  where
    price : (place : Oid × StateMarks) → IsPriced HasState (END + 1) most (λ p. cond (reads_on (p.1).0) (reads p.0) 0) place
    price place = elim (reads_on (place.1).0) as (λ b. reads_on (place.1).0 ≡ b → (cond b (reads place.0) 0 ≡ 0) ⊎ ((mark : ℕ) × HasState place.1 mark × (mark < END + 1) × (cond b (reads place.0) 0 ≤ most place.0))) [
      | true ↦ λ some. (let first = reads_on-true (place.1).0 some in inr (first.0, first.1, omega (arith, first.2), few place.0))
      | false ↦ λ none. inl refl
    ] refl

-- objects in the order of their numbers, each once
pub lists_sorted : (oids sorted : List Oid) → AllPairs (λ a b. nat_cmp a.0 b.0 ≡ Less) sorted → ((oid : Oid) → Contains sorted oid ↔ Contains oids oid)
    → ListsInOrder (Contains oids) sorted
lists_sorted oids sorted ascend members = record {
  ascending = λ i j d below within. less_from_cmp (get_or sorted i d).0 (get_or sorted j d).0 (ascend i j d below within);
  exact = members;
}

pub lists_ended : (met : List (Oid × StateMarks)) (ended sorted : List Oid) → ((oid : Oid) → Contains ended oid ↔ IsMet HasState met (oid, END))
    → AllPairs (λ a b. nat_cmp a.0 b.0 ≡ Less) sorted → ((oid : Oid) → Contains sorted oid ↔ Contains ended oid)
    → ListsInOrder (λ oid. IsMet HasState met (oid, END)) sorted
lists_ended met ended sorted all ascend members =
    ListsInOrder-same (Contains ended) (λ oid. IsMet HasState met (oid, END)) sorted all (lists_sorted ended sorted ascend members)

-- what a search that starts at some objects in the starts of a machine finds
pub found_from : (labels : List (List ℕ)) (machine : Machine) (goes : Oid → Label → Oid → Type 0) (oids : List Oid) (met : List (Oid × StateMarks))
    → IsClosure HasState (Leads labels machine goes) (map (λ oid. (oid, marks machine.start)) oids) met
    → (there : Oid × ℕ) → IsMet HasState met there ↔ CanBe labels machine goes (λ t. Contains oids t.0 × IsIn machine.start t.1) there
found_from labels machine goes oids met closure there =
    let starts : List (Oid × StateMarks) = map (λ oid. (oid, marks machine.start)) oids in
    let words = led_by_words labels machine goes (IsMet HasState starts) there in (
      λ h. (let can = words.0 ((closure.exact there).0 h) in (can.0, can.1, (starting_at oids machine.start can.0).0 can.2, can.3, can.4)),
      λ can. (closure.exact there).1 (words.1 (can.0, can.1, (starting_at oids machine.start can.0).1 can.2, can.3, can.4)),
    )

-- the objects that are met at the end are those that pass
pub lists_same : {E : Type 0} (result : Result (Unit {0}) E) (P Q : Oid → Type 0) (old new : List Oid) → ((oid : Oid) → P oid ↔ Q oid)
    → OnOk result (ExtendsBy (ListsInOrder P) old new) → OnOk result (ExtendsBy (ListsInOrder Q) old new)
lists_same result P Q old new same lists = on_ok_weaker result (λ e. (e.0, e.1, ListsInOrder-same P Q e.0 same e.2)) lists
