use Rattle.std.proofs.Common.{sym, ap, ◌∙◌}
use Rattle.std.specs.Option.{option_copied}
use Rattle.answers.proofs.FoundLaws.{contains_last, ascend_push}
use Rattle.answers.proofs.found_rows.order_behind.Goals as goal

pub returns-in-Some-clause-equal : goal.returns-in-Some-clause-equal
returns-in-Some-clause-equal c tied =
    contains_last c.args.rows.now c.in-Some.last.now c.args.row.now (sym c.last.ensures.value ∙ ap option_copied c.in-Some.is)
    (sym c.cmp.ensures ∙ tied)

pub returns-in-Some-clause-less : goal.returns-in-Some-clause-less
returns-in-Some-clause-less c behind ascend =
    ascend_push c.args.rows.now c.in-Some.last.now c.args.row.now ascend (sym c.last.ensures.value ∙ ap option_copied c.in-Some.is)
    (sym c.cmp.ensures ∙ behind)
