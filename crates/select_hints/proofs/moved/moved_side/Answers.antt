use Rattle.std.proofs.Common.{map, Option, IfSome, subst}
use Rattle.lorel_bound.specs.declared.conditions.BoundPath.{BoundPath}
use Rattle.lorel_bound.specs.Bound.{range_tree, bound_path}
use Rattle.select_hints.specs.inside.Moves.{IsMovedPath}
use Rattle.select_hints.proofs.moved.moved_side.Goals as goal

pub returns : goal.returns
returns c =
    subst (λ (found : Option BoundPath). IfSome found (λ more. IsMovedPath (map range_tree c.args.ranges.now) (bound_path c.args.path.now) (bound_path more)))
    c.in-Some.is c.in_ok-more.ensures
