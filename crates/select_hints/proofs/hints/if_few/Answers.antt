use Rattle.select_hints.proofs.hints.if_few.Goals as goal

pub returns-clause-own : goal.returns-clause-own
returns-clause-own c = c.in-Some.is

pub returns-clause-few : goal.returns-clause-few
returns-clause-few c = c.are_few.ensures c.if-not-are_few.false
