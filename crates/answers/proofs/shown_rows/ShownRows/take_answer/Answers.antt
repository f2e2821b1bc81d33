use Rattle.std.proofs.Common.{ap, ◌∙◌}
use Rattle.answers.specs.inside.Showing.{RowsShown, IsNoted}
use Rattle.answers.proofs.NoteLaws.{found_all}
use Rattle.answers.proofs.shown_rows.ShownRows.take_answer.Goals as goal

pub returns-then-branch-clause-rows : goal.returns-then-branch-clause-rows
returns-then-branch-clause-rows g c = c.in_ok-read_waiting.ensures.rows.many c.if-branch.true

pub returns-then-branch-clause-quiet : goal.returns-then-branch-clause-quiet
returns-then-branch-clause-quiet g c none = c.in_ok-read_waiting.ensures.quiet none

pub invariant_of-self : goal.invariant_of-self
invariant_of-self g c = c.self.invariant

pub returns-clause-rows : goal.returns-clause-rows
returns-clause-rows g c =
    let same = c.replace-found.ensures.value ∙ ap (λ (shown : RowsShown). shown.found) c.self.view_is in
    found_all (IsNoted c.args.self.now) c.read_waiting.new.self c.replace-found.result c.in_ok-read_waiting.field-0 c.in_ok-read_waiting.ensures.rows
    c.if-branch.false c.in_ok-read_waiting.ensures.none same c.into_answer.result c.into_answer.ensures

pub returns-clause-quiet : goal.returns-clause-quiet
returns-clause-quiet g c none = c.in_ok-read_waiting.ensures.quiet none
