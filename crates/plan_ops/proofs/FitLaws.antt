-- What is told of rows by two tests, and offers of objects that a step lends, or of one that may be left out.
use Rattle.std.proofs.Common.{◌≡◌, ℕ, ◌+◌, ◌<◌, Bool, true, false, IsTrue, List, [], ◌∷◌, length, take, drop, map, Option, None, Some, IfSome, refl, sym, ap, subst, arith}
use Rattle.std.specs.List.{Contains, slice_get}
use Rattle.std.proofs.lemmas.List.{length-map}
use Rattle.index_traits.specs.PartRows.{NonePasses, AreAllThatFit}
use Rattle.lorel_bound.specs.Plans.{StepTree, filter}
use Rattle.row_hints.specs.Thinned.{FailsWith}
use Rattle.row_hints.proofs.ThinLaws.{thinned_one}
use Rattle.plan_ops.specs.Types.{Oid, RANGES}
use Rattle.plan_laws.specs.Steps.{StepsOver}
use Rattle.plan_ops.specs.Rows.{AreQuiet}
use Rattle.plan_ops.specs.declared.offers.Offer.{Offer}
use Rattle.plan_ops.specs.inside.Offers.{Fill, Lend, One, Keep, Reject, IsOffer, IsKeptOffer, IsOfferAt, IsKeptAt, HasObjects, one_unless}
use Rattle.plan_laws.specs.Orders.{AreStepsInOrder}
use Rattle.plan_ops.specs.inside.Narrowing.{IsFilledBy, AreHintedAt}
use Rattle.plan_ops.specs.inside.Ready.{ReadyStep, ready_tree}
use Rattle.plan_ops.proofs.NarrowLaws.{narrowed_at, not_quiet, offer_kept}

-- what is told of rows that pass the one is told of those that pass both, and so of the other
pub none_of_both : (Passes Others : List Oid → Type 0) (known : List Bool) (row : List Oid) → NonePasses Passes known row
    → NonePasses (λ own. Passes own × Others own) known row
none_of_both Passes Others known row none other completes =
    none other (record { eight = completes.eight; agree = completes.agree; passes = completes.passes.0 })

pub none_of_other : (Passes Others : List Oid → Type 0) (known : List Bool) (row : List Oid) → NonePasses Others known row
    → NonePasses (λ own. Passes own × Others own) known row
none_of_other Passes Others known row none other completes =
    none other (record { eight = completes.eight; agree = completes.agree; passes = completes.passes.1 })

-- objects that the step keeps are offered like others
pub lent_offer : (over : StepsOver) (steps : List StepTree) (at slot : ℕ) (row oids : List Oid) (offer : Offer) → HasObjects offer slot oids
    → IsOfferAt over steps at row offer → IsOfferAt over steps at row (Fill slot oids)
lent_offer over steps at slot row oids (Fill own objects) has offers step later cut =
    subst (λ (n : ℕ). IsOffer over step row (Fill n oids)) has.0 (subst (λ (l : List Oid). IsOffer over step row (Fill own l)) has.1 (offers step later cut))
lent_offer over steps at slot row oids (Lend own objects) has offers step later cut =
    let made = offers step later cut in
    let filled : IsOffer over step row (Fill own objects.now) = record { fills = made.fills; ordered = made.ordered; own = made.own; rows = made.rows } in
    subst (λ (n : ℕ). IsOffer over step row (Fill n oids)) has.0 (subst (λ (l : List Oid). IsOffer over step row (Fill own l)) has.1 filled)
lent_offer over steps at slot row oids (One own oid) has offers step later cut =
    let made = offers step later cut in
    let filled : IsOffer over step row (Fill own (oid ∷ [])) =
    record { fills = made.fills; ordered = λ i j d less within. absurd (omega (arith, less, within)); own = made.own; rows = made.rows } in
    subst (λ (n : ℕ). IsOffer over step row (Fill n oids)) has.0 (subst (λ (l : List Oid). IsOffer over step row (Fill own l)) (sym has.1) filled)
lent_offer over steps at slot row oids Keep has offers step later cut = absurd has
lent_offer over steps at slot row oids Reject has offers step later cut = absurd has

pub kept_lent : (over : StepsOver) (steps : List StepTree) (at slot : ℕ) (row oids : List Oid) (offer : Offer) → HasObjects offer slot oids
    → IsKeptAt over steps at row (Fill slot oids) → IsKeptAt over steps at row offer
kept_lent over steps at slot row oids (Fill own objects) has kept step later cut =
    subst (λ (n : ℕ). IsKeptOffer over step later row (Fill n objects)) (sym has.0)
    (subst (λ (l : List Oid). IsKeptOffer over step later row (Fill slot l)) (sym has.1) (kept step later cut))
kept_lent over steps at slot row oids (Lend own objects) has kept step later cut =
    let made : IsKeptOffer over step later row (Fill own objects.now) =
    subst (λ (n : ℕ). IsKeptOffer over step later row (Fill n objects.now)) (sym has.0)
    (subst (λ (l : List Oid). IsKeptOffer over step later row (Fill slot l)) (sym has.1) (kept step later cut)) in
    record { fills = made.fills; rows = made.rows }
kept_lent over steps at slot row oids (One own oid) has kept step later cut =
    let made : IsKeptOffer over step later row (Fill own (oid ∷ [])) =
    subst (λ (n : ℕ). IsKeptOffer over step later row (Fill n (oid ∷ []))) (sym has.0)
    (subst (λ (l : List Oid). IsKeptOffer over step later row (Fill slot l)) has.1 (kept step later cut)) in
    record { fills = made.fills; rows = made.rows }
kept_lent over steps at slot row oids Keep has kept step later cut = absurd has
kept_lent over steps at slot row oids Reject has kept step later cut = absurd has

-- an offer of one object: it may fail
pub one_narrowed : (over : StepsOver) (Hints : List Oid → Type 0) (steps : List StepTree) (at slot : ℕ) (row : List Oid) (oid : Oid) (known : List Bool) (out : Bool)
    → AreStepsInOrder steps → length row ≡ RANGES → Contains (drop (at + 1) steps) filter
    → ((own : ℕ) → slice_get known own ≡ Some true → IsFilledBy (take at steps) own)
    → IsOfferAt over steps at row (One slot oid) → AreHintedAt over Hints steps at row → (IsTrue out → FailsWith Hints known slot row oid)
    → IsKeptAt over steps at row (one_unless out slot oid)
one_narrowed over Hints steps at slot row oid known false order long tests marked offers hinted fails step later cut =
    offer_kept over steps at row (One slot oid) offers step later cut
one_narrowed over Hints steps at slot row oid known true order long tests marked offers hinted fails step later cut =
    let kept = narrowed_at over Hints steps at slot row (oid ∷ []) [] known order long tests marked
    (lent_offer over steps at slot row (oid ∷ []) (One slot oid) (refl, refl) offers) hinted
    (thinned_one (FailsWith Hints known slot row) oid (fails refl)) step later cut in
    record { fills = tt; rows = kept.rows }

-- where it may be left out, the steps from this one on read an edge
pub one_not_quiet : (over : StepsOver) (ready : List ReadyStep) (at slot : ℕ) (row : List Oid) (oid : Oid) → at < length ready
    → Contains (drop (at + 1) (map ready_tree ready)) filter → IsOfferAt over (map ready_tree ready) at row (One slot oid)
    → AreQuiet over (drop at (map ready_tree ready)) → ⊥
one_not_quiet over ready at slot row oid within tests offers quiet =
    let steps = map ready_tree ready in
    not_quiet over steps at slot row (oid ∷ []) (subst (λ (n : ℕ). at < n) (sym (length-map ready ready_tree)) within)
    (λ none. omega (arith, ap length none)) tests (lent_offer over steps at slot row (oid ∷ []) (One slot oid) (refl, refl) offers) quiet
