use Rattle.std.proofs.Common.{map, IfOk, IfSome, sym, subst}
use Rattle.lore_base.specs.Paths.{path_tree}
use Rattle.select_hints.specs.Types.{BoundStart}
use Rattle.lorel_bound.specs.Bound.{range_tree, bound_path}
use Rattle.select_hints.specs.inside.Moves.{IsMovedPath}
use Rattle.select_hints.proofs.moved.moved_path.Goals as goal

pub returns-in-Slot : goal.returns-in-Slot
returns-in-Slot c =
    subst (λ (s : BoundStart). IfOk c.moved_from.result (λ found. IfSome found (λ more.
    IsMovedPath (map range_tree c.args.ranges.now) (record { start = s; rest = path_tree c.args.path.now.rest }) (bound_path more))))
    (sym c.in-Slot.is) c.moved_from.ensures
