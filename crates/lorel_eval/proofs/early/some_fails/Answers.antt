use Rattle.lorel_eval.proofs.early.some_fails.Goals as goal

pub returns-then-branch : goal.returns-then-branch
returns-then-branch g c = λ yes. c.in_ok-some_of_kind_fails.ensures c.if-branch.true
