use Rattle.std.proofs.Common.{map, IfOk, IfSome, sym, subst}
use Rattle.lorel_bound.specs.declared.conditions.BoundOperand.{BoundOperand}
use Rattle.lorel_bound.specs.Bound.{range_tree, bound_operand}
use Rattle.select_hints.specs.inside.Moves.{IsMovedOperand}
use Rattle.select_hints.proofs.moved.moved_operand.Goals as goal

pub returns-in-At : goal.returns-in-At
returns-in-At c =
    subst (λ (o : BoundOperand). IfOk c.moved_side.result (λ found. IfSome found (λ more.
    IsMovedOperand (map range_tree c.args.ranges.now) (bound_operand o) (bound_operand more)))) (sym c.in-At.is) c.moved_side.ensures
