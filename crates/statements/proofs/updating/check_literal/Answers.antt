use Rattle.statements.proofs.updating.check_literal.Goals as goal

pub returns-in-AddNew-clause-refused : goal.returns-in-AddNew-clause-refused
returns-in-AddNew-clause-refused c = rw c.in-AddNew.is c.check_locals.ensures.err
