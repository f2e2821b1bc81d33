use Rattle.std.proofs.Common.{◌≡◌, ◌++◌, map, drop}
use Rattle.lorel_bound.specs.Bound.{bound_cond, bound_conds}
use Rattle.lorel_bound.proofs.conditions.+copy.Given as goal

abbrev pub invariant-copy_conds-conds : goal.invariant-copy_conds-conds
invariant-copy_conds-conds l = bound_conds l.list ++ map bound_cond (drop l.cond-index l.cond-items) ≡ bound_conds l.fn.conds
