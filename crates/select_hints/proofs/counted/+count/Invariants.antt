use Rattle.std.proofs.Common.{◌≡◌, ◌+◌, ◌-◌, ◌^◌, ◌<◌, min, map, drop}
use Rattle.lorel_bound.specs.Bound.{bound_cond, bound_conds, conds_from}
use Rattle.select_hints.specs.inside.Counts.{conds_leaves}
use Rattle.select_hints.proofs.counted.+count.Given as goal

abbrev pub invariant-leaves_of_list-conds : goal.invariant-leaves_of_list-conds
invariant-leaves_of_list-conds l = record {
  so_far : min (2 ^ 64 - 1) (l.count + conds_leaves (conds_from (map bound_cond (drop l.cond-index l.cond-items))))
      ≡ min (2 ^ 64 - 1) (conds_leaves (conds_from (bound_conds l.fn.conds)));
  fits : l.count < 2 ^ 64;
}
