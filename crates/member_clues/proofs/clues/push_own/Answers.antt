use Rattle.member_clues.proofs.clues.push_own.Goals as goal

pub returns-in_err-push_compared : goal.returns-in_err-push_compared
returns-in_err-push_compared c = c.push_compared.ensures

pub returns : goal.returns
returns c = λ whole follows all. c.push_other.ensures whole follows (c.push_compared.ensures whole follows all)
