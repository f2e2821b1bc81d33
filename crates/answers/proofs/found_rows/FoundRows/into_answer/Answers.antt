use Rattle.std.proofs.Common.{true≢false, Contains, subst, sym, ◌∙◌}
use Rattle.answers.specs.Asked.{AreRows}
use Rattle.answers.proofs.FoundLaws.{too_many, all_rows}
use Rattle.answers.proofs.found_rows.FoundRows.into_answer.Goals as goal

pub returns-then-is_too_much : goal.returns-then-is_too_much
returns-then-is_too_much c =
    too_many c.args.self c.settle.new.self c.settle.ensures.members c.settle.ensures.ascending
    (c.is_too_much.ensures.0 c.if-is_too_much.true)

pub returns : goal.returns
returns c =
    subst (AreRows (Contains c.args.self)) (sym (c.from_rows.ensures ∙ c.found.view_is))
    (all_rows c.args.self c.settle.new.self c.settle.ensures.members c.settle.ensures.ascending
    (λ much. true≢false (sym (c.is_too_much.ensures.1 much) ∙ c.if-is_too_much.false)))
