use Rattle.std.proofs.Common.{ℕ, List, [], ◌∷◌, ◌++◌, Some, slice_get, sym, ap, subst, ◌∙◌}
use Rattle.oem_labels.specs.Labels.{AreLabels}
use Rattle.oem_labels.proofs.TextSetLaws.{one_text_more, labels_push}
use Rattle.oem_labels.proofs.label_table.LabelTable.push.Goals as goal

pub returns-clause-ok : goal.returns-clause-ok
returns-clause-ok c =
    let copied = c.in_ok-copy.ensures in
    c.in_ok-insert.ensures.keys
    ∙ one_text_more c.self.inside.texts.keys c.in_ok-copy.copy
    (λ i there. c.requires.new (record { 0 = i }) (ap (λ l. slice_get l i) (sym c.self.view_is) ∙ there ∙ ap (λ (t : List ℕ). Some t) copied))
    ∙ ap (λ l. l ++ c.in_ok-copy.copy ∷ []) c.self.view_is ∙ ap (λ t. c.args.self.now ++ t ∷ []) copied

pub invariant_of-self-2 : goal.invariant_of-self-2
invariant_of-self-2 c =
    let labels = subst AreLabels c.self.view_is c.self.invariant in
    subst AreLabels (sym (returns-clause-ok c))
    (labels_push c.args.self.now c.args.text.now labels (λ i there. c.requires.new (record { 0 = i }) there) c.requires.few)
