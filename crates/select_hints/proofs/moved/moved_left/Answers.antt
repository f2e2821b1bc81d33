use Rattle.std.proofs.Common.{map, Option, IfSome, sym, ap, ◌∙◌, subst}
use Rattle.lorel_bound.specs.declared.conditions.BoundOperand.{BoundOperand}
use Rattle.lorel_bound.specs.Bound.{BoundPathTree, range_tree, bound_operand}
use Rattle.lorel_bound.specs.Conditions.{OperandOf, CondOf, compare}
use Rattle.select_hints.specs.inside.Moves.{IsMoved, IsMovedOperand}
use Rattle.select_hints.proofs.MoveLaws.{moved_left}
use Rattle.select_hints.proofs.moved.moved_left.Goals as goal

pub returns : goal.returns
returns c =
    let ranges = map range_tree c.args.ranges.now in
    let left = bound_operand c.args.left.now in
    let right = bound_operand c.args.right.now in
    let more = bound_operand c.in-Some.more in
    let moves = subst (λ (found : Option BoundOperand). IfSome found (λ own. IsMovedOperand ranges left (bound_operand own))) c.in-Some.is c.in_ok-more.ensures in
    let whole = c.comparison.ensures ∙ ap (λ (o : OperandOf BoundPathTree). compare more c.args.op o) c.in_ok-copy.ensures in
    subst (λ (w : CondOf BoundPathTree). IsMoved ranges (compare left c.args.op right) w) (sym whole) (moved_left ranges left more right c.args.op moves)
