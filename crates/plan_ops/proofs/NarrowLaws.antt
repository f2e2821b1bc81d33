-- Objects that are left out of what a step offers, and rows that are hopeless for it.
use Rattle.std.proofs.Common.{◌≡◌, ◌≢◌, ℕ, zero, suc, ◌+◌, ◌-◌, ◌<◌, ◌≤◌, inl, inr, Bool, true, List, [], ◌∷◌, length, get_or, take, drop, map, set, Some, refl, sym, ap, ◌∙◌, subst, arith}
use Rattle.std.specs.List.{Contains, slice_get}
use Rattle.std.proofs.lemmas.Option.{none-some, slice_get-get_or}
use Rattle.std.proofs.lemmas.List.{drop-drop}
use Rattle.std.proofs.lemmas.List.Elements.{All-head, All-tail, All-contains, All-drop}
use Rattle.lore_base.proofs.MemberLaws.{Contains-none, Contains-head, Contains-cases}
use Rattle.list_laws.proofs.MemberLaws.{Contains-map, Contains-from_map}
use Rattle.list_laws.proofs.PlaceLaws.{Contains-from_place}
use Rattle.lorel_bound.specs.Plans.{StepTree, filter}
use Rattle.row_hints.specs.Thinned.{FailsWith, AreThinned}
use Rattle.row_hints.proofs.SlotLaws.{filled_there, filled_elsewhere}
use Rattle.plan_ops.specs.Types.{Oid, RANGES}
use Rattle.plan_laws.specs.Steps.{StepsOver, Meets, Finishes, IsLeft, slot_of}
use Rattle.plan_ops.specs.Rows.{AreQuiet, IsGuided}
use Rattle.plan_ops.specs.declared.offers.Offer.{Offer}
use Rattle.plan_ops.specs.inside.Offers.{Fill, IsVariant, IsHopeless, IsOffer, IsKeptOffer, IsOfferAt, IsKeptAt, offered}
use Rattle.plan_laws.specs.Orders.{IsSettled, Stands, AreStepsInOrder}
use Rattle.plan_ops.specs.inside.Narrowing.{IsFilledBy, AreHintedAt}
use Rattle.plan_ops.specs.inside.Ready.{ReadyStep, ready_tree}
use Rattle.plan_ops.proofs.FinishLaws.{settles, finishes_through, all_kept}
use Rattle.plan_ops.proofs.OfferLaws.{apart_filled}
use Rattle.plan_ops.proofs.TurnLaws.{drop_at, ordered_at, nothing_meets, step_at}

-- an item stands in what is left behind the places in front of it
behind_there : {X : Type 0} (xs : List X) (k n : ℕ) (x : X) → k ≤ n → slice_get xs n ≡ Some x → Contains (drop k xs) x
behind_there xs zero n x less is = Contains-from_place xs n x is
behind_there [] (suc k) n x less is = absurd (none-some x is)
behind_there (y ∷ ys) (suc k) zero x less is = absurd (omega (arith, less))
behind_there (y ∷ ys) (suc k) (suc n) x less is = behind_there ys k n x (omega (arith, less)) is

pub test_behind : (ready : List ReadyStep) (at : ℕ) (last : ReadyStep) → at < length ready → (at + 1 ≡ length ready → ⊥)
    → slice_get ready (length ready - 1) ≡ Some last → ready_tree last ≡ filter → Contains (drop (at + 1) (map ready_tree ready)) filter
test_behind ready at last within more is tests =
    behind_there (map ready_tree ready) (at + 1) (length ready - 1) filter (omega (arith, within, more))
    (step_at ready (length ready - 1) last is ∙ ap Some tests)

-- the slots that the first steps fill are filled by none of the others
filled_left : (steps : List StepTree) (at own : ℕ) → AreStepsInOrder steps → IsFilledBy (take at steps) own → IsLeft (drop at steps) own
filled_left steps zero own order filled = absurd (Contains-none filled.0 filled.1)
filled_left [] (suc at) own order filled = absurd (Contains-none filled.0 filled.1)
filled_left (first ∷ others) (suc at) own order filled = elim (Contains-cases first (take at others) filled.0 filled.1) [
  | inl same ↦ All-drop (λ s. slot_of s ≢ Some own) at others (settles first others own order.0 (ap slot_of same ∙ filled.2)).1
  | inr behind ↦ filled_left others at own order.1 (filled.0, behind, filled.2)
]

-- an object with which nothing is told of a row makes a row hopeless that has it in the slot
fails_hopeless : (over : StepsOver) (Hints : List Oid → Type 0) (step : StepTree) (later : List StepTree) (known : List Bool) (slot : ℕ) (row : List Oid)
    (oid : Oid) → slot_of step ≡ Some slot → slot < RANGES → length row ≡ RANGES → IsLeft later slot → Contains later filter → Stands step later
    → ((own : ℕ) → slice_get known own ≡ Some true → IsLeft (step ∷ later) own)
    → ((whole : List Oid) → Finishes over (step ∷ later) row whole → over.passes whole → Hints whole)
    → IsVariant step row (set row slot oid) → Meets over step (set row slot oid)
    → FailsWith Hints known slot row oid → IsHopeless over later (set row slot oid)
fails_hopeless over Hints step later known slot row oid fills within long left tests stands marked hinted variant met fails whole finishes =
    fails whole (record {
      eight = finishes.eight;
      agree = λ own mark.
          let free = marked own mark in
          sym (filled_elsewhere row slot own oid (λ is. All-head (λ s. slot_of s ≢ Some own) step later free (fills ∙ ap Some (sym is))))
          ∙ sym (finishes.same own (All-tail (λ s. slot_of s ≢ Some own) step later free));
      passes = hinted whole (finishes_through over step later row (set row slot oid) whole stands variant met finishes)
          (All-contains (λ s. Meets over s whole) later filter finishes.met tests);
    })
    (finishes.same slot left ∙ filled_there row slot oid (omega (arith, within, long)))

-- other causes to leave objects out
thinned_for : (Fails Falls : Oid → Type 0) (oids kept : List Oid) → ((oid : Oid) → Contains oids oid → Fails oid → Falls oid) → AreThinned Fails oids kept
    → AreThinned Falls oids kept
thinned_for Fails Falls oids kept weaker thin = record {
  ascending = thin.ascending;
  sound = thin.sound;
  complete = λ oid at. elim (thin.complete oid at) [
    | inl there ↦ inl there
    | inr fails ↦ inr (weaker oid at fails)
  ];
}

-- objects are left out of an offer that make hopeless rows
thinned_offer : (over : StepsOver) (step : StepTree) (later : List StepTree) (slot : ℕ) (row oids kept : List Oid) → length row ≡ RANGES
    → IsOffer over step row (Fill slot oids) → AreThinned (λ oid. IsHopeless over later (set row slot oid)) oids kept
    → IsKeptOffer over step later row (Fill slot kept)
thinned_offer over step later slot row oids kept long offers thin = record {
  fills = offers.fills;
  rows = record {
    sound = λ other at.
        let found = Contains-from_map (set row slot) kept other at in
        (offers.rows.exact other).0 (subst (Contains (map (set row slot) oids)) found.2 (Contains-map (set row slot) oids found.0 (thin.sound found.0 found.1)));
    complete = λ other variant met.
        let found = Contains-from_map (set row slot) oids other ((offers.rows.exact other).1 (variant, met)) in
        elim (thin.complete found.0 found.1) [
          | inl there ↦ inl (subst (Contains (map (set row slot) kept)) found.2 (Contains-map (set row slot) kept found.0 there))
          | inr fails ↦ inr (subst (IsHopeless over later) found.2 fails)
        ];
    apart = apart_filled row slot kept (omega (arith, offers.fills, long)) thin.ascending;
  };
}

pub narrowed_at : (over : StepsOver) (Hints : List Oid → Type 0) (steps : List StepTree) (at slot : ℕ) (row oids kept : List Oid) (known : List Bool)
    → AreStepsInOrder steps → length row ≡ RANGES → Contains (drop (at + 1) steps) filter
    → ((own : ℕ) → slice_get known own ≡ Some true → IsFilledBy (take at steps) own)
    → IsOfferAt over steps at row (Fill slot oids) → AreHintedAt over Hints steps at row → AreThinned (FailsWith Hints known slot row) oids kept
    → IsKeptAt over steps at row (Fill slot kept)
narrowed_at over Hints steps at slot row oids kept known order long tests marked offers hinted thin step later cut =
    let offer = offers step later cut in
    let behind : drop (at + 1) steps ≡ later = sym (drop-drop 1 at steps) ∙ ap (drop 1) cut in
    let ordered : AreStepsInOrder (step ∷ later) = subst AreStepsInOrder cut (ordered_at steps at order) in
    let settled : IsSettled later slot = settles step later slot ordered.0 offer.own in
    thinned_offer over step later slot row oids kept long offer
    (thinned_for (FailsWith Hints known slot row) (λ oid. IsHopeless over later (set row slot oid)) oids kept (λ oid there.
    let made = (offer.rows.exact (set row slot oid)).0 (Contains-map (set row slot) oids oid there) in
    fails_hopeless over Hints step later known slot row oid offer.own offer.fills long settled.1
    (subst (λ (l : List StepTree). Contains l filter) behind tests) ordered.0
    (λ own mark. subst (λ (l : List StepTree). IsLeft l own) cut (filled_left steps at own order (marked own mark)))
    (λ whole finishes. hinted whole (subst (λ (l : List StepTree). Finishes over l row whole) (sym cut) finishes)) made.0 made.1) thin)

-- where none is left out
pub offer_kept : (over : StepsOver) (steps : List StepTree) (at : ℕ) (row : List Oid) (offer : Offer) → IsOfferAt over steps at row offer
    → IsKeptAt over steps at row offer
offer_kept over steps at row offer offers step later cut =
    let made = offers step later cut in
    record { fills = made.fills; rows = all_kept over step later row (offered offer row) made.rows }

-- some step stands at each place within a plan, and the offer is what it makes of the row
pub offer_at : (over : StepsOver) (steps : List StepTree) (at : ℕ) (row : List Oid) (offer : Offer) → at < length steps → IsOfferAt over steps at row offer
    → (step : StepTree) × IsOffer over step row offer
offer_at over steps at row offer within offers =
    let step = get_or steps at filter in
    (step, offers step (drop (at + 1) steps) (drop_at steps at step (slice_get-get_or steps at filter within)))

-- steps before a test that offer some object read an edge
some_met : (over : StepsOver) (step : StepTree) (row : List Oid) (slot : ℕ) (oids : List Oid) → (oids ≡ [] → ⊥) → IsOffer over step row (Fill slot oids)
    → (other : List Oid) × Meets over step other
some_met over step row slot [] some offers = absurd (some refl)
some_met over step row slot (oid ∷ oids) some offers =
    (set row slot oid, ((offers.rows.exact (set row slot oid)).0 (Contains-head (set row slot oid) (map (set row slot) oids))).1)

pub not_quiet : (over : StepsOver) (steps : List StepTree) (at slot : ℕ) (row oids : List Oid) → at < length steps → (oids ≡ [] → ⊥)
    → Contains (drop (at + 1) steps) filter → IsOfferAt over steps at row (Fill slot oids) → AreQuiet over (drop at steps) → ⊥
not_quiet over steps at slot row oids within some tests offers quiet =
    let step = get_or steps at filter in
    let later = drop (at + 1) steps in
    let cut : drop at steps ≡ step ∷ later = drop_at steps at step (slice_get-get_or steps at filter within) in
    let met = some_met over step row slot oids some (offers step later cut) in
    elim (subst (AreQuiet over) cut quiet) [
      | inl guided ↦ All-contains IsGuided later filter (All-tail IsGuided step later guided) tests
      | inr nothing ↦ nothing_meets over step later met.0 nothing met.1
    ]
