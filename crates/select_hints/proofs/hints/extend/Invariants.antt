use Rattle.std.proofs.Common.{map}
use Rattle.lorel_bound.specs.Bound.{range_tree, bound_conds}
use Rattle.select_hints.specs.inside.Moves.{Extends}
use Rattle.select_hints.proofs.hints.extend.Given as goal

abbrev pub invariant-places : goal.invariant-places
invariant-places l = Extends (map range_tree l.ranges) (bound_conds l.fn.members) (bound_conds l.members)
