use Rattle.std.proofs.Common.{sym, ◌∙◌}
use Rattle.std.proofs.lemmas.Bool.{true≢false}
use Rattle.oem_labels.proofs.TableLaws.{gain-known, gain-some}
use Rattle.oem_labels.proofs.label_table.LabelTable.has_all.Goals as goal

pub returns-in-None : goal.returns-in-None
returns-in-None c = (
  λ denied. absurd (true≢false (sym denied)),
  λ none. absurd (gain-some c.args.self.now c.args.texts.now c.texts.text-index c.text-item.result c.texts-test.true c.text-item.is
      (λ place there. c.in-None.ensures.none (record { 0 = place }) there) (c.texts.invariant ∙ none)),
)

pub texts-preserved : goal.texts-preserved
texts-preserved c =
    gain-known c.args.self.now c.args.texts.now c.texts.text-index c.in-Some.field-0.0 c.text-item.result c.texts-test.true c.text-item.is c.in-Some.ensures.found
    ∙ c.texts.invariant
