use Rattle.std.proofs.Common.{map, Option, IfSome, sym, ap, ◌∙◌, subst}
use Rattle.lorel_bound.specs.declared.conditions.BoundPath.{BoundPath}
use Rattle.lorel_bound.specs.Bound.{BoundPathTree, range_tree, bound_path}
use Rattle.lorel_bound.specs.Conditions.{CondOf, same}
use Rattle.select_hints.specs.inside.Moves.{IsMoved, IsMovedPath}
use Rattle.select_hints.proofs.MoveLaws.{moved_right_met}
use Rattle.select_hints.proofs.moved.moved_right_met.Goals as goal

pub returns : goal.returns
returns c =
    let ranges = map range_tree c.args.ranges.now in
    let left = bound_path c.args.left.now in
    let right = bound_path c.args.right.now in
    let more = bound_path c.in-Some.more in
    let moves = subst (λ (found : Option BoundPath). IfSome found (λ own. IsMovedPath ranges right (bound_path own))) c.in-Some.is c.in_ok-more.ensures in
    let whole = c.meeting.ensures ∙ ap (λ (o : BoundPathTree). same o more) c.in_ok-copy.ensures in
    subst (λ (w : CondOf BoundPathTree). IsMoved ranges (same left right) w) (sym whole) (moved_right_met ranges left right more moves)
