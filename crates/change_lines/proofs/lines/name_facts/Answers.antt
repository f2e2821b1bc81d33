use Rattle.std.proofs.Common.{◌∙◌, refl}
use Rattle.doem_history.proofs.NameFactLaws.{taken_more, taken_all}
use Rattle.change_lines.proofs.lines.name_facts.Goals as goal

pub texts-preserved : goal.texts-preserved
texts-preserved c =
    taken_more _ _ _ _ _ c.as_slice-text-items.result.now c.as_slice.result.now _ _ _ _ c.texts.invariant (c.as_slice-text-items.ensures ∙ c.in_ok-texts.ensures)
    (c.as_slice.ensures ∙ c.in_ok-oids.ensures) c.texts-test.true c.text-item.is c.in_ok-copy.ensures refl c.in_ok-push.ensures.items

pub returns : goal.returns
returns c =
    taken_all _ _ _ _ c.as_slice-text-items.result.now c.texts.invariant (c.as_slice-text-items.ensures ∙ c.in_ok-texts.ensures) c.texts-test.false
