use Rattle.lorel_eval.proofs.known_starts.paths_are_known.Goals as goal

pub returns : goal.returns
returns c = λ yes. (c.is_known.ensures c.if-not-is_known.false, c.is_known-2.ensures yes)
