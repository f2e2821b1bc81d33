use Rattle.std.proofs.Common.{sym, subst}
use Rattle.member_clues.specs.declared.clues.Given.{Given}
use Rattle.member_clues.specs.Clues.{IsGivenBy}
use Rattle.member_clues.proofs.choosing.is_given.Goals as goal

pub returns-in-Atom : goal.returns-in-Atom
returns-in-Atom c = λ yes. subst (λ (own : Given). IsGivenBy c.args.known.now own) (sym c.in-Atom.is) tt

pub returns-in-At : goal.returns-in-At
returns-in-At c = λ yes. subst (λ (own : Given). IsGivenBy c.args.known.now own) (sym c.in-At.is) (c.is_start_given.ensures yes)
