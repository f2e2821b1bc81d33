use Rattle.std.proofs.Common.{true≢false, sym, ◌∙◌}
use Rattle.plan_ops.proofs.narrowing.is_tried.Goals as goal

pub returns-then-len-lt-MANY-clause-some : goal.returns-then-len-lt-MANY-clause-some
returns-then-len-lt-MANY-clause-some c = λ yes none. true≢false (sym (c.is_empty.ensures.1 none) ∙ c.if-is_empty.false)

pub returns-then-len-lt-MANY-clause-tested : goal.returns-then-len-lt-MANY-clause-tested
returns-then-len-lt-MANY-clause-tested c = c.is_tried_of_few.ensures

pub returns-clause-some : goal.returns-clause-some
returns-clause-some c = λ yes none. true≢false (sym (c.is_empty.ensures.1 none) ∙ c.if-is_empty.false)

pub returns-clause-tested : goal.returns-clause-tested
returns-clause-tested c = c.is_tested_later.ensures
