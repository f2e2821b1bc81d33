use Rattle.std.proofs.Common.{◌∙◌, ap}
use Rattle.lorel_bound.specs.declared.conditions.BoundOperand.{BoundOperand}
use Rattle.lorel_bound.specs.Bound.{bound_path, bound_operand}
use Rattle.lorel_bound.specs.Conditions.{compare, at}
use Rattle.slot_joins.specs.Types.{Op, Eq}
use Rattle.slot_joins.proofs.worth.paths_compared.Goals as goal

pub returns-in-At-Eq-At : goal.returns-in-At-Eq-At
returns-in-At-Eq-At c =
    let left = at (bound_path c.in-At-Eq-At.left) in
    ap (λ (o : BoundOperand). compare (bound_operand o) c.args.op (bound_operand c.args.right.now)) c.in-At-Eq-At.is-0
    ∙ ap (λ (o : Op). compare left o (bound_operand c.args.right.now)) c.in-At-Eq-At.is-1
    ∙ ap (λ (o : BoundOperand). compare left Eq (bound_operand o)) c.in-At-Eq-At.is-2
