use Rattle.std.proofs.Common.{sym}
use Rattle.lorel_eval.proofs.early.some_of_kind_fails.Goals as goal

pub returns-then-branch : goal.returns-then-branch
returns-then-branch g c = λ yes.
    (c.member-item.result, (c.members.member-index, c.members-test.true, sym c.member-item.is), c.in_ok-is_of_kind_and_fails.ensures c.if-branch.true)
