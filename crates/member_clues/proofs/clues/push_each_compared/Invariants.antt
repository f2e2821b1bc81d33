use Rattle.std.proofs.Common.{◌≤◌, map, drop}
use Rattle.lorel_bound.specs.Bound.{bound_cond, conds_from}
use Rattle.lorel_bound.specs.Conditions.{and, paths_of_all}
use Rattle.lorel_eval.specs.Tests.{rest_leaves}
use Rattle.member_clues.specs.Types.{LEAVES}
use Rattle.member_clues.specs.inside.Reading.{AddsCluesOf}
use Rattle.member_clues.proofs.clues.push_each_compared.Given as goal

abbrev pub invariant-members : goal.invariant-members
invariant-members l = record {
  few : rest_leaves (paths_of_all (conds_from (map bound_cond (drop l.member-index l.members)))) ≤ LEAVES;
  added : AddsCluesOf l.labels (and (conds_from (map bound_cond l.members))) l.fn.clues.items l.clues.items;
}
