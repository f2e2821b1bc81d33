use Rattle.std.proofs.Common.{sym, subst}
use Rattle.lorel_eval.specs.Types.{BoundStart}
use Rattle.lorel_eval.specs.inside.Early.{IsKnown}
use Rattle.lorel_eval.proofs.known_starts.is_known.Goals as goal

pub returns-in-Slot : goal.returns-in-Slot
returns-in-Slot c = λ yes. subst (λ (start : BoundStart). IsKnown c.args.known.now start) (sym c.in-Slot.is) (c.is_marked.ensures yes)

pub returns-in-Named : goal.returns-in-Named
returns-in-Named c = λ yes. subst (λ (start : BoundStart). IsKnown c.args.known.now start) (sym c.in-Named.is) tt

pub returns-in-Quantified : goal.returns-in-Quantified
returns-in-Quantified c = λ yes. subst (λ (start : BoundStart). IsKnown c.args.known.now start) (sym c.in-Quantified.is) tt
