use Rattle.std.proofs.Common.{slice_get, sym, ap, ◌∙◌}
use Rattle.oem_labels.proofs.TextSetLaws.{text_at, text_nowhere}
use Rattle.oem_labels.proofs.label_table.LabelTable.find.Goals as goal

pub returns-in-Some-clause-found : goal.returns-in-Some-clause-found
returns-in-Some-clause-found c =
    ap (λ t. slice_get t c.in-Some.place) (sym c.self.view_is)
    ∙ text_at c.args.text.now c.self.inside.texts.keys c.in-Some.place (sym c.in-Some.ensures.index)

pub returns-in-None-clause-none : goal.returns-in-None-clause-none
returns-in-None-clause-none c =
    λ label there. text_nowhere c.args.text.now c.self.inside.texts.keys label.0 (sym c.in-None.ensures.found)
    (ap (λ t. slice_get t label.0) c.self.view_is ∙ there)
