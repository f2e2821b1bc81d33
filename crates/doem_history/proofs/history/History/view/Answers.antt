use Rattle.std.proofs.Common.{◌∙◌, Some, ap, sym, subst}
use Rattle.doem_history.specs.Moments.{IsInOrder}
use Rattle.doem_history.proofs.MomentLaws.{in_order}
use Rattle.doem_history.proofs.ViewLaws.{moment_told}
use Rattle.doem_history.proofs.history.History.view.Goals as goal

pub returns-clause-among : goal.returns-clause-among
returns-clause-among c = moment_told c.args.self.now c.args.moment c.requires ∙ ap Some (sym c.new.ensures)

pub returns-clause-ordered : goal.returns-clause-ordered
returns-clause-ordered c = subst IsInOrder (sym c.new.ensures) (in_order c.args.self.now c.args.moment)
