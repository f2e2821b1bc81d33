use Rattle.std.proofs.Common.{ℕ, List, true≢false, sym, ◌∙◌}
use Rattle.lore_base.specs.Names.{IsLabel}
use Rattle.dump_text.proofs.ListLaws.{denied, passed}
use Rattle.dump_text.proofs.rules.are_labels.Goals as goal

pub returns-then-not-is_label : goal.returns-then-not-is_label
returns-then-not-is_label c =
    denied (λ (x : List ℕ). IsLabel x) c.args.texts.now c.texts.text-index c.text-item.result c.texts-test.true c.text-item.is
    (λ passes. true≢false (sym (c.is_label.ensures.1 passes) ∙ c.if-not-is_label.true))

pub texts-preserved : goal.texts-preserved
texts-preserved c =
    passed (λ (x : List ℕ). IsLabel x) c.args.texts.now c.texts.text-index c.text-item.result c.texts-test.true c.text-item.is
    (c.is_label.ensures.0 c.if-not-is_label.false) c.texts.invariant
