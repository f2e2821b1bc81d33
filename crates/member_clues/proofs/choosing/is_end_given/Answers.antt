use Rattle.std.proofs.Common.{sym, subst}
use Rattle.member_clues.specs.declared.clues.End.{End}
use Rattle.member_clues.specs.Clues.{IsEndGiven}
use Rattle.member_clues.proofs.choosing.is_end_given.Goals as goal

pub returns-in-Compared : goal.returns-in-Compared
returns-in-Compared c = λ yes. subst (λ (own : End). IsEndGiven c.args.known.now own) (sym c.in-Compared.is) (c.is_given.ensures yes)

pub returns-in-Met : goal.returns-in-Met
returns-in-Met c = λ yes. subst (λ (own : End). IsEndGiven c.args.known.now own) (sym c.in-Met.is) (c.is_start_given.ensures yes)
