-- Rows that finish a partial one by a step and those behind it: they finish one of the rows that the step makes of it.
use Rattle.std.proofs.Common.{◌≡◌, ◌≢◌, ◌↔◌, ℕ, inl, inr, List, [], ◌∷◌, length, get_or, set, Option, None, Some, refl, sym, ap, ◌∙◌, subst, arith}
use Rattle.std.specs.List.{Contains, slice_get}
use Rattle.std.proofs.lemmas.Bool.{cases_eq}
use Rattle.std.proofs.lemmas.Option.{none-some, same_Some, slice_get-get_or}
use Rattle.std.proofs.lemmas.List.{length-set, nil_from_length}
use Rattle.std.proofs.lemmas.List.Elements.{All-nil, All-cons, All-head, All-tail}
use Rattle.lore_base.specs.Walks.{oid_of}
use Rattle.lorel_bound.specs.SlotRows.{StartsAt}
use Rattle.lorel_bound.specs.Plans.{StepTree, forward, from_guide, from_value, backward, check, filter}
use Rattle.plan_ops.specs.Types.{Oid, Start, RANGES}
use Rattle.plan_ops.specs.Types.starts
use Rattle.plan_laws.specs.Steps.{StepsOver, Meets, IsLeft, Finishes, slot_of}
use Rattle.plan_laws.specs.Orders.{IsSettled, IsThere, Stands}
use Rattle.plan_ops.specs.inside.Offers.{IsVariant, AreOffered, AreKept}
use Rattle.row_hints.proofs.SlotLaws.{same_places, filled_there, filled_elsewhere}

-- two rows are the same in the slots that none of these steps fills
abbrev pub AgreeWhereLeft : List StepTree → List Oid → List Oid → Type 0
AgreeWhereLeft later a b = (slot : ℕ) → IsLeft later slot → slice_get a slot ≡ slice_get b slot

-- what stands in a slot is the start's there too
starts_alike : (start : Start) (later : List StepTree) (slot : ℕ) (a b : List Oid) (oid : Oid) → IsThere later start slot → AgreeWhereLeft later a b
    → StartsAt a start oid → StartsAt b start oid
starts_alike (starts.Named named) later slot a b oid there same at = at
starts_alike (starts.Slot own) later slot a b oid there same at = sym (same own there.0.1) ∙ at

-- a step asks only for slots that no later step fills
pub meets_alike : (over : StepsOver) (step : StepTree) (later : List StepTree) (a b : List Oid) → Stands step later → AgreeWhereLeft later a b
    → Meets over step a → Meets over step b
meets_alike over (forward start path slot) later a b stands same met = record {
  from = met.from;
  to = met.to;
  begins = starts_alike start later slot a b met.from stands.1 same met.begins;
  ends = sym (same slot stands.0.1) ∙ met.ends;
  leads = met.leads;
}
meets_alike over (from_guide named path slot) later a b stands same met = record {
  from = met.from;
  to = met.to;
  begins = met.begins;
  ends = sym (same slot stands.1) ∙ met.ends;
  leads = met.leads;
}
meets_alike over (from_value label op value rest slot) later a b stands same met =
    (met.0, sym (same slot stands.1) ∙ met.1, met.2)
meets_alike over (backward child path parent) later a b stands same met = record {
  from = met.from;
  to = met.to;
  begins = sym (same parent stands.0.1) ∙ met.begins;
  ends = sym (same child stands.1.1) ∙ met.ends;
  leads = met.leads;
}
meets_alike over (check child path named) later a b stands same met = record {
  from = met.from;
  to = met.to;
  begins = met.begins;
  ends = sym (same child stands.1) ∙ met.ends;
  leads = met.leads;
}
meets_alike over filter later a b stands same met =
    let none : later ≡ [] = nil_from_length later stands in
    let all : AgreeWhereLeft [] a b = subst (λ (steps : List StepTree). AgreeWhereLeft steps a b) none same in
    subst over.passes (same_places a b (λ slot. all slot (All-nil (λ step. slot_of step ≢ Some slot)))) met

-- the slot that a step fills is one of the eight, and no later step fills it
pub settles : (step : StepTree) (later : List StepTree) (slot : ℕ) → Stands step later → slot_of step ≡ Some slot → IsSettled later slot
settles (forward start path own) later slot stands is = subst (IsSettled later) (same_Some own slot is) stands.0
settles (from_guide named path own) later slot stands is = subst (IsSettled later) (same_Some own slot is) stands
settles (from_value label op value rest own) later slot stands is = subst (IsSettled later) (same_Some own slot is) stands
settles (backward child path own) later slot stands is = subst (IsSettled later) (same_Some own slot is) stands.0
settles (check child path named) later slot stands is = absurd (none-some slot is)
settles filter later slot stands is = absurd (none-some slot is)

-- of a row that the step makes of another, on the way to a finished one
record Between (step : StepTree) (later : List StepTree) (row other : List Oid) : Type 0 where
  pub middle : List Oid
  pub variant : IsVariant step row middle
  pub agree : AgreeWhereLeft later other middle

between : (step : StepTree) (later : List StepTree) (row other : List Oid) (own : Option ℕ) → slot_of step ≡ own → Stands step later
    → length row ≡ RANGES → length other ≡ RANGES → AgreeWhereLeft (step ∷ later) other row → Between step later row other
between step later row other None none stands long eight same = record {
  middle = row;
  variant = record { eight = long; same = λ slot left. refl };
  agree = λ slot left. same slot (All-cons (λ s. slot_of s ≢ Some slot) step later (λ is. none-some slot (sym none ∙ is)) left);
}
between step later row other (Some own) fills stands long eight same =
    let (within, unfilled) = settles step later own stands fills in
    let oid = get_or other own (oid_of 0) in
    let there : slice_get other own ≡ Some oid = slice_get-get_or other own (oid_of 0) (omega (arith, within, eight)) in
    record {
      middle = set row own oid;
      variant = record {
        eight = length-set row own oid ∙ long;
        same = λ slot free. filled_elsewhere row own slot oid (λ is. free (fills ∙ ap Some (sym is)));
      };
      agree = λ slot left. elim (cases_eq slot own) [
        | inl here ↦ ap (slice_get other) here ∙ there ∙ sym (filled_there row own oid (omega (arith, within, long))) ∙ ap (slice_get (set row own oid)) (sym here)
        | inr elsewhere ↦
            same slot (All-cons (λ s. slot_of s ≢ Some slot) step later (λ is. elsewhere (same_Some slot own (sym is ∙ fills))) left)
            ∙ sym (filled_elsewhere row own slot oid elsewhere)
      ];
    }

-- whoever finishes what the step makes of a row finishes the row
pub finishes_through : (over : StepsOver) (step : StepTree) (later : List StepTree) (row middle whole : List Oid) → Stands step later
    → IsVariant step row middle → Meets over step middle → Finishes over later middle whole → Finishes over (step ∷ later) row whole
finishes_through over step later row middle whole stands variant met h = record {
  eight = h.eight;
  same = λ slot left.
      h.same slot (All-tail (λ s. slot_of s ≢ Some slot) step later left) ∙ variant.same slot (All-head (λ s. slot_of s ≢ Some slot) step later left);
  met = All-cons (λ s. Meets over s whole) step later
      (meets_alike over step later middle whole stands (λ slot left. sym (h.same slot left)) met) h.met;
}

-- whoever finishes the row finishes one of those that are kept of what the step makes of it
pub finished_by_kept : (over : StepsOver) (step : StepTree) (later : List StepTree) (row : List Oid) (rows : List (List Oid)) → AreKept over step later row rows
    → Stands step later → length row ≡ RANGES → (other : List Oid)
    → ((middle : List Oid) × Contains rows middle × Finishes over later middle other) ↔ Finishes over (step ∷ later) row other
finished_by_kept over step later row rows kept stands long other = (
  λ h.
      let made = kept.sound h.0 h.1 in
      finishes_through over step later row h.0 other stands made.0 made.1 h.2,
  λ finishes.
      let found = between step later row other (slot_of step) refl stands long finishes.eight finishes.same in
      let met = meets_alike over step later other found.middle stands found.agree (All-head (λ s. Meets over s other) step later finishes.met) in
      let rest : Finishes over later found.middle other = record {
        eight = finishes.eight;
        same = found.agree;
        met = All-tail (λ s. Meets over s other) step later finishes.met;
      } in
      elim (kept.complete found.middle found.variant met) [
        | inl there ↦ (found.middle, there, rest)
        | inr hopeless ↦ absurd (hopeless other rest)
      ],
)

-- where none is left out, all are kept
pub all_kept : (over : StepsOver) (step : StepTree) (later : List StepTree) (row : List Oid) (rows : List (List Oid)) → AreOffered over step row rows
    → AreKept over step later row rows
all_kept over step later row rows offers = record {
  sound = λ other at. (offers.exact other).0 at;
  complete = λ other variant met. inl ((offers.exact other).1 (variant, met));
  apart = offers.apart;
}

-- and only one of them
pub finishes_one : (over : StepsOver) (step : StepTree) (later : List StepTree) (row a b other : List Oid) → Stands step later
    → IsVariant step row a → IsVariant step row b → Finishes over later a other → Finishes over later b other → a ≡ b
finishes_one over step later row a b other stands first second one two =
    same_places a b (λ slot. alike slot (slot_of step) refl)
  where
    alike : (slot : ℕ) (own : Option ℕ) → slot_of step ≡ own → slice_get a slot ≡ slice_get b slot
    alike slot None none = first.same slot (λ is. none-some slot (sym none ∙ is)) ∙ sym (second.same slot (λ is. none-some slot (sym none ∙ is)))
    alike slot (Some own) fills = elim (cases_eq slot own) [
      | inl here ↦
          let left = (settles step later slot stands (fills ∙ ap Some (sym here))).1 in
          sym (one.same slot left) ∙ two.same slot left
      | inr elsewhere ↦
          first.same slot (λ is. elsewhere (same_Some slot own (sym is ∙ fills))) ∙ sym (second.same slot (λ is. elsewhere (same_Some slot own (sym is ∙ fills))))
    ]

-- with no step left a row is finished by itself alone
pub finished_whole : (over : StepsOver) (row : List Oid) → length row ≡ RANGES → (other : List Oid) → Finishes over [] row other ↔ (other ≡ row)
finished_whole over row long other = (
  λ finishes. same_places other row (λ slot. finishes.same slot (All-nil (λ s. slot_of s ≢ Some slot))),
  λ is. subst (λ (whole : List Oid). Finishes over [] row whole) (sym is)
      (record { eight = long; same = λ slot left. refl; met = All-nil (λ s. Meets over s row) }),
)
