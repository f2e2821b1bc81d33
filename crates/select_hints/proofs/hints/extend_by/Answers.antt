use Rattle.std.proofs.Common.{map, Option, IfSome, refl, subst}
use Rattle.lorel_bound.specs.declared.conditions.BoundCond.{BoundCond}
use Rattle.lorel_bound.specs.Bound.{range_tree, bound_cond, bound_conds}
use Rattle.select_hints.specs.inside.Moves.{IsMovedOf}
use Rattle.select_hints.proofs.MoveLaws.{extends_none, extends_by}
use Rattle.select_hints.proofs.hints.extend_by.Goals as goal

pub returns : goal.returns
returns c =
    let ranges = map range_tree c.args.ranges.now in
    let list = bound_conds c.args.members.now in
    let moves = subst (λ (found : Option BoundCond). IfSome found (λ more. IsMovedOf ranges list (bound_cond more))) c.in-Some.is c.in_ok-more.ensures in
    extends_by ranges list (bound_conds c.push.new.self) (bound_cond c.in-Some.more) moves c.in_ok-push.ensures.trees

pub returns-in_default : goal.returns-in_default
returns-in_default c =
    extends_none (map range_tree c.args.ranges.now) (bound_conds c.args.members.now) (bound_conds c.args.members.now) refl
