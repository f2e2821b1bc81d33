use Rattle.std.proofs.Common.{[], ap, ◌∙◌, subst}
use Rattle.std.proofs.lemmas.Option.{none-some}
use Rattle.std.proofs.Common.{Some}
use Rattle.lorel_bound.specs.SlotRows.{BoundStartsAt}
use Rattle.index_eval.specs.Types.{BoundStart}
use Rattle.index_eval.proofs.ends.object_of.Goals as goal

pub returns-in-Named : goal.returns-in-Named
returns-in-Named c = λ oid at. ap Some (subst (λ (s : BoundStart). BoundStartsAt c.args.row.now [] s oid) c.in-Named.is at)

pub returns-in-Slot : goal.returns-in-Slot
returns-in-Slot c = λ oid at. c.in_slot.ensures ∙ subst (λ (s : BoundStart). BoundStartsAt c.args.row.now [] s oid) c.in-Slot.is at

pub returns-in-Quantified : goal.returns-in-Quantified
returns-in-Quantified c = λ oid at. absurd (none-some oid (subst (λ (s : BoundStart). BoundStartsAt c.args.row.now [] s oid) c.in-Quantified.is at))
