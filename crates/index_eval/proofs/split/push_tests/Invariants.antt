use Rattle.std.proofs.Common.{◌≡◌, ◌≤◌, ◌++◌, map, take, drop}
use Rattle.lorel_bound.specs.Bound.{bound_cond, conds_from}
use Rattle.lorel_bound.specs.Conditions.{paths_of_all}
use Rattle.lorel_eval.specs.Tests.{rest_leaves}
use Rattle.index_eval.specs.Types.{LEAVES}
use Rattle.index_eval.specs.inside.Listing.{cond_over}
use Rattle.index_eval.proofs.split.push_tests.Given as goal

abbrev pub invariant-conds : goal.invariant-conds
invariant-conds g l = record {
  few : rest_leaves (paths_of_all (conds_from (map bound_cond (drop l.cond-index l.conds)))) ≤ LEAVES;
  made : l.tests.items ≡ l.fn.tests.items
      ++ map (cond_over l.readers.labels.now (g.G.Adjacent.edges l.readers.graph.now) (g.G.ValueOf.objects l.readers.graph.now)) (take l.cond-index l.conds);
}
