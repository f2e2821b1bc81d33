use Rattle.std.proofs.Common.{◌≢◌, ◌≤◌, ℕ, ◌+◌, [], ◌∷◌, length, Some, sym, ap, subst, ◌∙◌, arith}
use Rattle.std.specs.List.{slice_get}
use Rattle.oem_labels.proofs.PlaceLaws.{label_in-at}
use Rattle.oem_text.specs.Types.{LABELS}
use Rattle.oem_text.specs.Layouts.{NumberedTexts, table_of, with_texts, count_with}
use Rattle.oem_text.specs.inside.Views.{numbered_texts, AreNumbered}
use Rattle.oem_text.proofs.NumberLaws.{with_known, count-known, count-new, absent_right, with_new, numbered_more, label-new}
use Rattle.oem_text.proofs.label_numbers.LabelNumbers.number.Goals as goal

pub returns-in-Some-clause-label : goal.returns-in-Some-clause-label
returns-in-Some-clause-label c =
    let are = subst AreNumbered c.self.view_is c.self.invariant in
    label_in-at (table_of c.args.self.now) c.in-Some.label c.args.text.now are.distinct c.in-Some.ensures.found

pub returns-in-Some-clause-texts : goal.returns-in-Some-clause-texts
returns-in-Some-clause-texts c = with_known c.args.self.now c.in-Some.label.0 c.args.text.now c.in-Some.ensures.found

pub returns-in-Some-clause-few : goal.returns-in-Some-clause-few
returns-in-Some-clause-few c =
    let are = subst AreNumbered c.self.view_is c.self.invariant in
    let count = count-known c.args.self.now c.in-Some.label.0 c.args.text.now c.in-Some.ensures.found in
    let few = are.few in
    omega (arith, count, few)

pub returns-then-place-ge-LABELS-clause-none : goal.returns-then-place-ge-LABELS-clause-none
returns-then-place-ge-LABELS-clause-none c =
    let count = count-new c.args.self.now c.args.text.now c.in_default.ensures.none in
    let known = ap (λ (n : NumberedTexts). length n.known) c.self.view_is in
    let come = ap (λ (n : NumberedTexts). length n.come) c.self.view_is in
    omega (arith, count, known, come, c.len.ensures.count, c.len-2.ensures.count, c.if-place-ge-LABELS.true)

pub push-requires-clause-new : goal.push-requires-clause-new
push-requires-clause-new c =
    absent_right c.self.inside.known.now c.self.inside.come c.args.text.now
    (λ place h. c.in_default.ensures.none place (ap (λ (n : NumberedTexts). slice_get (table_of n) place) (sym c.self.view_is) ∙ h))

pub invariant_of-self-2 : goal.invariant_of-self-2
invariant_of-self-2 c =
    let before = numbered_texts c.self.inside.known.now c.self.inside.come in
    let text = c.args.text.now in
    let nowhere : (place : ℕ) → slice_get (table_of before) place ≢ Some text =
    λ place h. c.in_default.ensures.none place (ap (λ (n : NumberedTexts). slice_get (table_of n) place) (sym c.self.view_is) ∙ h) in
    let count = count-new before text nowhere in
    let few : count_with before (text ∷ []) ≤ LABELS = omega (arith, count, c.len.ensures.count, c.len-2.ensures.count, c.if-place-ge-LABELS.false) in
    subst AreNumbered (sym (with_new before c.push.new.self text nowhere c.in_ok-push.ensures.ok)) (numbered_more before text c.self.invariant few)

pub returns-clause-label : goal.returns-clause-label
returns-clause-label c =
    let before = numbered_texts c.self.inside.known.now c.self.inside.come in
    let text = c.args.text.now in
    let nowhere : (place : ℕ) → slice_get (table_of before) place ≢ Some text =
    λ place h. c.in_default.ensures.none place (ap (λ (n : NumberedTexts). slice_get (table_of n) place) (sym c.self.view_is) ∙ h) in
    let count = count-new before text nowhere in
    let few : count_with before (text ∷ []) ≤ LABELS = omega (arith, count, c.len.ensures.count, c.len-2.ensures.count, c.if-place-ge-LABELS.false) in
    let are = subst AreNumbered (sym (with_new before c.push.new.self text nowhere c.in_ok-push.ensures.ok)) (numbered_more before text c.self.invariant few) in
    label-new before c.push.new.self (record { 0 = c.len.result + c.len-2.result }) text are c.in_ok-push.ensures.ok
    (omega (arith, c.len.ensures.count, c.len-2.ensures.count))

pub returns-clause-texts : goal.returns-clause-texts
returns-clause-texts c =
    let before = numbered_texts c.self.inside.known.now c.self.inside.come in
    let text = c.args.text.now in
    let nowhere : (place : ℕ) → slice_get (table_of before) place ≢ Some text =
    λ place h. c.in_default.ensures.none place (ap (λ (n : NumberedTexts). slice_get (table_of n) place) (sym c.self.view_is) ∙ h) in
    with_new before c.push.new.self text nowhere c.in_ok-push.ensures.ok ∙ ap (λ (n : NumberedTexts). with_texts n (text ∷ [])) c.self.view_is
