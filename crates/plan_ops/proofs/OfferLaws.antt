-- What each kind of step makes of a row, by the objects that it finds.
use Rattle.std.proofs.Common.{◌≡◌, ◌≢◌, ◌↔◌, ℕ, ◌<◌, inl, inr, Bool, true, false, true≢false, IsTrue, List, [], ◌∷◌, ◌++◌, length, get_or, map, set, Option, None, Some, refl, sym, ap, ◌∙◌, subst, arith}
use Rattle.std.specs.List.{AllPairs, Contains, slice_get}
use Rattle.std.proofs.lemmas.Bool.{cases_eq}
use Rattle.std.proofs.lemmas.Option.{none-some, same_Some, slice_get-get_or}
use Rattle.std.proofs.lemmas.List.{length-set, length-map, get_or-map}
use Rattle.std.proofs.lemmas.List.Elements.{All-head}
use Rattle.lore_base.specs.Walks.{Walk, oid_of}
use Rattle.lore_base.specs.Paths.{PathTree, Reaches}
use Rattle.lore_base.specs.TargetSets.{ListsInOrder}
use Rattle.lore_base.proofs.MemberLaws.{Contains-none, Contains-head, Contains-cases}
use Rattle.lore_base.proofs.TargetLaws.{ListsInOrder-same}
use Rattle.list_laws.proofs.MemberLaws.{Contains-map, Contains-from_map}
use Rattle.product_walk.specs.ProductWalks.{ReachesInto}
use Rattle.word_walks.specs.declared.only_words.OnlyWord.{OnlyWord}
use Rattle.word_walks.specs.declared.only_words.OnlyWord.TheVariants.{Labels, Lacking}
use Rattle.word_walks.specs.WordWalks.{IsItsWord, IsReachedBy}
use Rattle.lorel_bound.specs.Runnable.{IsWithin}
use Rattle.lorel_bound.specs.SlotRows.{StartsAt}
use Rattle.lorel_bound.specs.Plans.{StepTree, forward, from_guide, from_value, backward, check, IsCandidate}
use Rattle.plan_ops.specs.Types.{Oid, Label, Edge, Value, Op, Start, RANGES}
use Rattle.plan_ops.specs.Types.starts
use Rattle.plan_laws.specs.Steps.{StepsOver, Meets, Connects, slot_of}
use Rattle.plan_ops.specs.Rows.{AreQuiet, IsGuided}
use Rattle.plan_ops.specs.declared.offers.Offer.{Offer}
use Rattle.plan_laws.specs.Orders.{IsThere, Stands}
use Rattle.plan_ops.specs.inside.Offers.{Fill, Lend, One, Keep, Reject, IsVariant, IsOffer, HasObjects, PutsAll, PutsThose, tested}
use Rattle.row_hints.proofs.SlotLaws.{same_places, filled_there, filled_elsewhere}

-- objects that ascend are put into the slot of a row: the rows are each once
pub apart_filled : (row : List Oid) (slot : ℕ) (oids : List Oid) → slot < length row → AllPairs (λ a b. a.0 < b.0) oids
    → AllPairs (λ a b. a ≢ b) (map (set row slot) oids)
apart_filled row slot oids within ascend i j d less inside same =
    let all : length (map (set row slot) oids) ≡ length oids = length-map oids (set row slot) in
    let a : Oid = get_or oids i (oid_of 0) in
    let b : Oid = get_or oids j (oid_of 0) in
    let first : get_or (map (set row slot) oids) i d ≡ set row slot a = get_or-map (set row slot) oids i (oid_of 0) d (omega (arith, less, inside, all)) in
    let second : get_or (map (set row slot) oids) j d ≡ set row slot b = get_or-map (set row slot) oids j (oid_of 0) d (omega (arith, inside, all)) in
    let there : a ≡ b =
    same_Some a b (sym (filled_there row slot a within) ∙ ap (λ (r : List Oid). slice_get r slot) (sym first ∙ same ∙ second) ∙ filled_there row slot b within) in
    let below : a.0 < b.0 = ascend i j (oid_of 0) less (omega (arith, inside, all)) in
    omega (arith, below, ap (λ (o : Oid). o.0) there)

-- a step that fills a slot makes of a row those that have one of these objects there
pub fills : (over : StepsOver) (step : StepTree) (slot : ℕ) (row : List Oid) (oids : List Oid) → slot_of step ≡ Some slot → slot < RANGES
    → length row ≡ RANGES → ListsInOrder (λ oid. Meets over step (set row slot oid)) oids → IsOffer over step row (Fill slot oids)
fills over step slot row oids is within long lists = record {
  fills = within;
  ordered = lists.ascending;
  own = is;
  rows = record {
    exact = λ other. (
      λ among.
          let found = Contains-from_map (set row slot) oids other among in
          subst (λ (r : List Oid). IsVariant step row r × Meets over step r) found.2 (
            record {
              eight = length-set row slot found.0 ∙ long;
              same = λ own free. filled_elsewhere row slot own found.0 (λ here. free (is ∙ ap Some (sym here)));
            },
            (lists.exact found.0).0 found.1,
          ),
      λ h.
          let oid : Oid = get_or other slot (oid_of 0) in
          let there : slice_get other slot ≡ Some oid = slice_get-get_or other slot (oid_of 0) (omega (arith, within, h.0.eight)) in
          let whole : set row slot oid ≡ other = same_places (set row slot oid) other (λ own. elim (cases_eq own slot) [
            | inl here ↦ ap (slice_get (set row slot oid)) here ∙ filled_there row slot oid (omega (arith, within, long)) ∙ sym there ∙ ap (slice_get other) (sym here)
            | inr elsewhere ↦ filled_elsewhere row slot own oid elsewhere ∙ sym (h.0.same own (λ own_is. elsewhere (same_Some own slot (sym own_is ∙ is))))
          ]) in
          subst (Contains (map (set row slot) oids)) whole
          (Contains-map (set row slot) oids oid ((lists.exact oid).1 (subst (Meets over step) (sym whole) h.1))),
    );
    apart = apart_filled row slot oids (omega (arith, within, long)) lists.ascending;
  };
}

-- objects that the step keeps are offered like others
pub lent : (over : StepsOver) (step : StepTree) (slot : ℕ) (row oids : List Oid) (offer : Offer) → HasObjects offer slot oids
    → IsOffer over step row (Fill slot oids) → IsOffer over step row offer
lent over step slot row oids (Fill own objects) has offers =
    subst (λ (n : ℕ). IsOffer over step row (Fill n objects)) (sym has.0) (subst (λ (l : List Oid). IsOffer over step row (Fill slot l)) (sym has.1) offers)
lent over step slot row oids (Lend own objects) has offers =
    let made : IsOffer over step row (Fill own objects.now) =
    subst (λ (n : ℕ). IsOffer over step row (Fill n objects.now)) (sym has.0) (subst (λ (l : List Oid). IsOffer over step row (Fill slot l)) (sym has.1) offers) in
    record { fills = made.fills; ordered = made.ordered; own = made.own; rows = made.rows }
lent over step slot row oids (One own oid) has offers =
    let made : IsOffer over step row (Fill own (oid ∷ [])) =
    subst (λ (n : ℕ). IsOffer over step row (Fill n (oid ∷ []))) (sym has.0) (subst (λ (l : List Oid). IsOffer over step row (Fill slot l)) has.1 offers) in
    record { fills = made.fills; ordered = tt; own = made.own; rows = made.rows }
lent over step slot row oids Keep has offers = absurd has
lent over step slot row oids Reject has offers = absurd has

-- or where there is none the row is rejected
pub put_offers : (over : StepsOver) (step : StepTree) (slot : ℕ) (row oids : List Oid) (offer : Offer) → PutsAll slot oids offer
    → IsOffer over step row (Fill slot oids) → IsOffer over step row offer
put_offers over step slot row [] offer puts offers = subst (IsOffer over step row) (sym puts) (record { fills = tt; ordered = tt; own = tt; rows = offers.rows })
put_offers over step slot row (oid ∷ oids) offer puts offers = lent over step slot row (oid ∷ oids) offer puts offers

-- a step that fills none makes of a row that row, where it meets the step, and else none
variant_same : (step : StepTree) (row other : List Oid) → slot_of step ≡ None → IsVariant step row other → other ≡ row
variant_same step row other none variant = same_places other row (λ slot. variant.same slot (λ is. none-some slot (sym none ∙ is)))

pub keeps : (over : StepsOver) (step : StepTree) (row : List Oid) → slot_of step ≡ None → length row ≡ RANGES → Meets over step row → IsOffer over step row Keep
keeps over step row none long met = record {
  fills = tt;
  ordered = tt;
  own = tt;
  rows = record {
    exact = λ other. (
      λ among. elim (Contains-cases row [] other among) [
        | inl same ↦ subst (λ (r : List Oid). IsVariant step row r × Meets over step r) same (record { eight = long; same = λ slot free. refl }, met)
        | inr behind ↦ absurd (Contains-none other behind)
      ],
      λ h. subst (Contains (row ∷ [])) (sym (variant_same step row other none h.0)) (Contains-head row []),
    );
    apart = λ i j d less within. absurd (omega (arith, less, within));
  };
}

pub refuses : (over : StepsOver) (step : StepTree) (row : List Oid) → slot_of step ≡ None → (Meets over step row → ⊥) → IsOffer over step row Reject
refuses over step row none fails = record {
  fills = tt;
  ordered = tt;
  own = tt;
  rows = record {
    exact = λ other. (
      λ among. absurd (Contains-none other among),
      λ h. absurd (fails (subst (Meets over step) (variant_same step row other none h.0) h.1)),
    );
    apart = λ i j d less within. absurd (omega (arith, within));
  };
}

-- the object of the start is in the row
pub within_row : (start : Start) (slot : ℕ) → IsThere [] start slot → IsWithin RANGES start
within_row (starts.Named named) slot there = tt
within_row (starts.Slot own) slot there = there.0.0

-- whichever object is put into the slot, the start has the one that it has
starts_beside : (start : Start) (slot : ℕ) (row : List Oid) (oid from : Oid) → IsThere [] start slot → StartsAt row start from
    → (other : Oid) → StartsAt (set row slot oid) start other ↔ (from ≡ other)
starts_beside (starts.Named named) slot row oid from there at other = ((λ same. sym at ∙ same), (λ same. at ∙ same))
starts_beside (starts.Slot own) slot row oid from there at other = (
  λ same. same_Some from other (sym at ∙ sym (filled_elsewhere row slot own oid there.1) ∙ same),
  λ same. filled_elsewhere row slot own oid there.1 ∙ at ∙ ap Some same,
)

-- what leads from the start's object fits the slot
connects : (Leads : Oid → Oid → Type 0) (start : Start) (slot : ℕ) (row : List Oid) (oid from : Oid) → slot < length row → IsThere [] start slot
    → StartsAt row start from → Leads from oid ↔ Connects Leads (set row slot oid) start (starts.Slot slot)
connects Leads start slot row oid from within there at = (
  λ leads. record {
    from = from;
    to = oid;
    begins = (starts_beside start slot row oid from there at from).1 refl;
    ends = filled_there row slot oid within;
    leads = leads;
  },
  λ h.
      let first : h.from ≡ from = sym ((starts_beside start slot row oid from there at h.from).0 h.begins) in
      let last : h.to ≡ oid = same_Some h.to oid (sym h.ends ∙ filled_there row slot oid within) in
      subst (λ (x : Oid). Leads x oid) first (subst (λ (y : Oid). Leads h.from y) last h.leads),
)

-- Each kind of step.

forward_offers : (over : StepsOver) (start : Start) (path : PathTree) (slot : ℕ) (row : List Oid) (from : Oid) (oids : List Oid)
    → Stands (forward start path slot) [] → length row ≡ RANGES → StartsAt row start from
    → ListsInOrder (Reaches over.labels over.edges path from) oids → IsOffer over (forward start path slot) row (Fill slot oids)
forward_offers over start path slot row from oids stands long at lists =
    fills over (forward start path slot) slot row oids refl stands.0.0 long
    (ListsInOrder-same (Reaches over.labels over.edges path from) (λ oid. Meets over (forward start path slot) (set row slot oid)) oids
    (λ oid. connects (Reaches over.labels over.edges path) start slot row oid from (omega (arith, stands.0.0, long)) stands.1 at) lists)

-- and they are put into the slot
pub route_offers : (over : StepsOver) (start : Start) (path : PathTree) (slot : ℕ) (row : List Oid) (from : Oid) (offer : Offer)
    → Stands (forward start path slot) [] → length row ≡ RANGES → StartsAt row start from
    → PutsThose (Reaches over.labels over.edges path from) slot offer → IsOffer over (forward start path slot) row offer
route_offers over start path slot row from offer stands long at puts =
    put_offers over (forward start path slot) slot row puts.0 offer puts.2 (forward_offers over start path slot row from puts.0 stands long at puts.1)

-- along the one word of a path
word_reaches : (labels : List (List ℕ)) (edges : List Edge) (path : PathTree) (word : OnlyWord) → IsItsWord labels path word
    → (x y : Oid) → IsReachedBy word edges x y ↔ Reaches labels edges path x y
word_reaches labels edges path (Labels own) its x y = (
  λ walked. (own, (its own).1 refl, walked),
  λ h. subst (λ (w : List Label). Walk edges x w y) ((its h.0).0 h.1) h.2,
)
word_reaches labels edges path Lacking its x y = (λ none. absurd none, λ h. absurd (its h.0 h.1))

pub word_offers : (over : StepsOver) (start : Start) (path : PathTree) (word : OnlyWord) (slot : ℕ) (row : List Oid) (from : Oid) (offer : Offer)
    → Stands (forward start path slot) [] → length row ≡ RANGES → StartsAt row start from → IsItsWord over.labels path word
    → PutsThose (IsReachedBy word over.edges from) slot offer → IsOffer over (forward start path slot) row offer
word_offers over start path word slot row from offer stands long at its puts =
    route_offers over start path slot row from offer stands long at (
      puts.0,
      ListsInOrder-same (IsReachedBy word over.edges from) (Reaches over.labels over.edges path from) puts.0
          (word_reaches over.labels over.edges path word its from) puts.1,
      puts.2,
    )

-- what the guide told
pub guide_offers : (over : StepsOver) (named : Oid) (path : PathTree) (slot : ℕ) (row oids : List Oid)
    → Stands (from_guide named path slot) [] → length row ≡ RANGES
    → ListsInOrder (over.reaches path named) oids → IsOffer over (from_guide named path slot) row (Fill slot oids)
guide_offers over named path slot row oids stands long lists =
    fills over (from_guide named path slot) slot row oids refl stands.0 long
    (ListsInOrder-same (over.reaches path named) (λ oid. Meets over (from_guide named path slot) (set row slot oid)) oids
    (λ oid. connects (over.reaches path) (starts.Named named) slot row oid named (omega (arith, stands.0, long)) tt refl) lists)

pub value_offers : (over : StepsOver) (label : Option Label) (op : Op) (value : Value) (rest : PathTree) (slot : ℕ) (row ends oids : List Oid)
    → Stands (from_value label op value rest slot) [] → length row ≡ RANGES
    → ListsInOrder (IsCandidate over.entries label op value) ends
    → ListsInOrder (ReachesInto over.labels over.links rest ends) oids
    → IsOffer over (from_value label op value rest slot) row (Fill slot oids)
value_offers over label op value rest slot row ends oids stands long found lists =
    fills over (from_value label op value rest slot) slot row oids refl stands.0 long
    (ListsInOrder-same (ReachesInto over.labels over.links rest ends) (λ oid. Meets over (from_value label op value rest slot) (set row slot oid)) oids
    (λ oid. (
      λ h. (oid, there oid, (h.0, h.2, (found.exact h.0).0 h.1)),
      λ h.
          let same : h.0 ≡ oid = same_Some h.0 oid (sym h.1 ∙ there oid) in
          subst (ReachesInto over.labels over.links rest ends) same (h.2.0, (found.exact h.2.0).1 h.2.2, h.2.1),
    )) lists)
  where
    there : (oid : Oid) → slice_get (set row slot oid) slot ≡ Some oid
    there oid = filled_there row slot oid (omega (arith, stands.0, long))

-- no candidate, and so none of them
pub none_found : (over : StepsOver) (label : Option Label) (op : Op) (value : Value) (rest : PathTree) (slot : ℕ) (ends : List Oid)
    → ListsInOrder (IsCandidate over.entries label op value) ends → AreQuiet over (from_value label op value rest slot ∷ []) → ends ≡ []
none_found over label op value rest slot [] found quiet = refl
none_found over label op value rest slot (oid ∷ oids) found (inl guided) =
    absurd (All-head IsGuided (from_value label op value rest slot) [] guided)
none_found over label op value rest slot (oid ∷ oids) found (inr nothing) = absurd (nothing oid ((found.exact oid).0 (Contains-head oid oids)))

pub back_offers : (over : StepsOver) (child : ℕ) (path : PathTree) (parent : ℕ) (row oids : List Oid) (to : Oid)
    → Stands (backward child path parent) [] → length row ≡ RANGES → slice_get row child ≡ Some to
    → ListsInOrder (λ from. Reaches over.labels over.links path from to) oids
    → IsOffer over (backward child path parent) row (Fill parent oids)
back_offers over child path parent row oids to stands long at lists =
    fills over (backward child path parent) parent row oids refl stands.0.0 long
    (ListsInOrder-same (λ from. Reaches over.labels over.links path from to) (λ oid. Meets over (backward child path parent) (set row parent oid)) oids
    (λ oid. (
      λ leads. record { from = oid; to = to; begins = there oid; ends = beside oid; leads = leads },
      λ h.
          let first : h.from ≡ oid = same_Some h.from oid (sym h.begins ∙ there oid) in
          let last : h.to ≡ to = same_Some h.to to (sym h.ends ∙ beside oid) in
          subst (λ (x : Oid). Reaches over.labels over.links path x to) first
          (subst (λ (y : Oid). Reaches over.labels over.links path h.from y) last h.leads),
    )) lists)
  where
    there : (oid : Oid) → slice_get (set row parent oid) parent ≡ Some oid
    there oid = filled_there row parent oid (omega (arith, stands.0.0, long))

    beside : (oid : Oid) → slice_get (set row parent oid) child ≡ Some to
    beside oid = filled_elsewhere row parent child oid stands.2 ∙ at

-- a test keeps the row exactly where it meets the step
pub test_offers : (over : StepsOver) (step : StepTree) (row : List Oid) (passes : Bool) → slot_of step ≡ None → length row ≡ RANGES
    → IsTrue passes ↔ Meets over step row → IsOffer over step row (tested passes)
test_offers over step row true none long tells = keeps over step row none long (tells.0 refl)
test_offers over step row false none long tells = refuses over step row none (λ met. true≢false (sym (tells.1 met)))

pub check_tells : (over : StepsOver) (child : ℕ) (path : PathTree) (named : Oid) (row oids : List Oid) (to : Oid) (passes : Bool)
    → slice_get row child ≡ Some to → ListsInOrder (λ from. Reaches over.labels over.links path from to) oids
    → IsTrue passes ↔ Contains oids named → IsTrue passes ↔ Meets over (check child path named) row
check_tells over child path named row oids to passes at lists tells = (
  λ yes. record { from = named; to = to; begins = refl; ends = at; leads = (lists.exact named).0 (tells.0 yes) },
  λ h.
      let last : h.to ≡ to = same_Some h.to to (sym h.ends ∙ at) in
      tells.1 ((lists.exact named).1
      (subst (λ (x : Oid). Reaches over.labels over.links path x to) (sym h.begins)
      (subst (λ (y : Oid). Reaches over.labels over.links path h.from y) last h.leads))),
)

-- What was found and put into an empty list.

pub leading_one : (labels : List (List ℕ)) (edges : List Edge) (path : PathTree) (to : Oid) (none ends oids : List Oid) → none ≡ [] → ends ≡ none ++ to ∷ []
    → ListsInOrder (ReachesInto labels edges path ends) oids → ListsInOrder (λ from. Reaches labels edges path from to) oids
leading_one labels edges path to none ends oids empty is lists =
    let whole : ends ≡ to ∷ [] = is ∙ ap (λ (l : List Oid). l ++ to ∷ []) empty in
    ListsInOrder-same (ReachesInto labels edges path ends) (λ from. Reaches labels edges path from to) oids
    (λ oid. (
      λ h. elim (Contains-cases to [] h.0 (subst (λ (l : List Oid). Contains l h.0) whole h.1)) [
        | inl same ↦ subst (Reaches labels edges path oid) (sym same) h.2
        | inr behind ↦ absurd (Contains-none h.0 behind)
      ],
      λ h. (to, subst (λ (l : List Oid). Contains l to) (sym whole) (Contains-head to []), h),
    )) lists
