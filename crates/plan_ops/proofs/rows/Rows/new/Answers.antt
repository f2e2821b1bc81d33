use Rattle.plan_ops.proofs.rows.Rows.new.Goals as goal

pub with_hints-requires-clause-hints : goal.with_hints-requires-clause-hints
with_hints-requires-clause-hints g c = λ row finishes passes. passes

pub returns-clause-over : goal.returns-clause-over
returns-clause-over g c = c.with_hints.ensures.over

pub returns-clause-rows : goal.returns-clause-rows
returns-clause-rows g c = c.with_hints.ensures.rows

pub returns-clause-top : goal.returns-clause-top
returns-clause-top g c = c.with_hints.ensures.top

pub returns-clause-quiet : goal.returns-clause-quiet
returns-clause-quiet g c = c.with_hints.ensures.quiet
