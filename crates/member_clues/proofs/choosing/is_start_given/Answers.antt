use Rattle.std.proofs.Common.{sym, subst}
use Rattle.member_clues.specs.Types.{BoundStart}
use Rattle.member_clues.specs.Clues.{IsStartGiven}
use Rattle.member_clues.proofs.choosing.is_start_given.Goals as goal

pub returns-in-Slot : goal.returns-in-Slot
returns-in-Slot c = λ yes. subst (λ (start : BoundStart). IsStartGiven c.args.known.now start) (sym c.in-Slot.is) (c.is_marked.ensures yes)

pub returns-in-Named : goal.returns-in-Named
returns-in-Named c = λ yes. subst (λ (start : BoundStart). IsStartGiven c.args.known.now start) (sym c.in-Named.is) tt
