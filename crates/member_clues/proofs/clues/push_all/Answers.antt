use Rattle.member_clues.proofs.clues.push_all.Goals as goal

pub returns-in_err-push_each_compared : goal.returns-in_err-push_each_compared
returns-in_err-push_each_compared c = c.push_each_compared.ensures

pub returns : goal.returns
returns c = λ whole follows all. c.push_each_other.ensures whole follows (c.push_each_compared.ensures whole follows all)
