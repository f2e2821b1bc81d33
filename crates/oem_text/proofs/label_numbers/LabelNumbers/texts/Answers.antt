use Rattle.std.proofs.Common.{◌≡◌, ℕ, List, [], ◌∷◌, ◌++◌, get_or, Some, sym, ap, ◌∙◌}
use Rattle.std.specs.List.{slice_get}
use Rattle.std.proofs.lemmas.List.{take_more}
use Rattle.std.proofs.lemmas.Option.{slice_get_within, get_or_from_slice_get}
use Rattle.oem_text.specs.Layouts.{NumberedTexts}
use Rattle.oem_text.proofs.label_numbers.LabelNumbers.texts.Goals as goal

pub labels-preserved : goal.labels-preserved
labels-preserved c =
    let come = c.args.self.now.come in
    let place = c.labels.place in
    let here : slice_get come place ≡ Some c.in-Some.text.now =
    ap (λ (n : NumberedTexts). slice_get n.come place) (sym c.self.view_is) ∙ sym c.in-Some.ensures in
    let copied = c.in_ok-try_copy.ensures ∙ sym (get_or_from_slice_get come place c.in-Some.text.now [] here) in
    c.in_ok-push.ensures.ok ∙ ap (λ (t : List ℕ). c.labels.texts ++ t ∷ []) copied
    ∙ ap (λ (l : List (List ℕ)). l ++ get_or come place [] ∷ []) c.labels.invariant
    ∙ sym (take_more come place [] (slice_get_within come place c.in-Some.text.now here))
