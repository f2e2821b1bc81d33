use Rattle.std.proofs.Common.{◌↔◌, map, drop}
use Rattle.lorel_bound.specs.Bound.{bound_cond, bound_conds, conds_from}
use Rattle.lorel_bound.specs.Plans.{Probe, IsFirstFitting}
use Rattle.planner.proofs.probes.first_fitting.Given as goal

abbrev pub invariant-members : goal.invariant-members
invariant-members l =
    (probe : Probe) → IsFirstFitting (conds_from (map bound_cond (drop l.member-index l.member-items))) probe ↔ IsFirstFitting (conds_from (bound_conds l.members)) probe
