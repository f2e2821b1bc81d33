use Rattle.std.proofs.Common.{map}
use Rattle.lorel_bound.specs.Bound.{bound_cond, conds_from}
use Rattle.lorel_bound.specs.Conditions.{and}
use Rattle.slot_joins.specs.inside.Joins.{AddsJoins}
use Rattle.slot_joins.proofs.members.push_each.Given as goal

abbrev pub invariant-members : goal.invariant-members
invariant-members g l =
    AddsJoins l.indexed.labels.now (g.G.Adjacent.edges l.indexed.graph.now) (g.G.ValueOf.objects l.indexed.graph.now)
    (and (conds_from (map bound_cond l.members))) l.fn.joins.items l.joins.items
