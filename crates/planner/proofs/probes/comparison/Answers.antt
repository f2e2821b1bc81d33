use Rattle.std.proofs.Common.{◌≡◌, ◌∙◌, IfNone, sym, ap, subst}
use Rattle.lorel_bound.specs.declared.conditions.BoundOperand.{BoundOperand}
use Rattle.lorel_bound.specs.Bound.{BoundPathTree, bound_path, bound_operand}
use Rattle.lorel_bound.specs.Conditions.{CondOf, compare, at, constant}
use Rattle.lorel_bound.specs.Plans.{DoesNotFit}
use Rattle.planner.proofs.probes.comparison.Goals as goal

pub returns-in-At-Atom-clause-none : goal.returns-in-At-Atom-clause-none
returns-in-At-Atom-clause-none c =
    let path = at (bound_path c.in-At-Atom.path) in
    let left : compare (bound_operand c.args.left.now) c.args.op (bound_operand c.args.right.now) ≡ compare path c.args.op (bound_operand c.args.right.now) =
    ap (λ (o : BoundOperand). compare (bound_operand o) c.args.op (bound_operand c.args.right.now)) c.in-At-Atom.is-0 in
    let right : compare path c.args.op (bound_operand c.args.right.now) ≡ compare path c.args.op (constant c.in-At-Atom.value) =
    ap (λ (o : BoundOperand). compare path c.args.op (bound_operand o)) c.in-At-Atom.is-1 in
    subst (λ (cond : CondOf BoundPathTree). IfNone c.path_comparison.result (DoesNotFit cond)) (sym (left ∙ right)) c.path_comparison.ensures.none
