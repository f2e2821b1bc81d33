use Rattle.plan_ops.proofs.narrowing.is_tried_of_few.Goals as goal

pub returns : goal.returns
returns c = c.is_tested_later.ensures
