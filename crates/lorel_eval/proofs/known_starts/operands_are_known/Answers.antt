use Rattle.lorel_eval.proofs.known_starts.operands_are_known.Goals as goal

pub returns : goal.returns
returns c = λ yes. (c.operand_is_known.ensures c.if-not-operand_is_known.false, c.operand_is_known-2.ensures yes)
