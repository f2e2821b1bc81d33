use Rattle.lorel_trees.specs.Trees.{select_tree}
use Rattle.lorel_bound.specs.Bound.{bound_tree}
use Rattle.std.proofs.Common.{refl}
use Rattle.statements.specs.Types.{PlanShown}
use Rattle.statements.proofs.ExplainLaws.{explained}
use Rattle.statements.proofs.explain.plan_shown.Goals as goal

pub returns-clause-ok : goal.returns-clause-ok
returns-clause-ok c =
    let plan = c.in_ok-kind.field-0 in
    explained c.args.store.now.db (select_tree c.args.query.now) (PlanShown plan.kind plan.candidates plan.found) c.in_ok-bound.ensures.ok (record {
      bound = bound_tree c.in_ok-bound.bound;
      kind = plan.kind;
      candidates = plan.candidates;
      found = plan.found;
      plan = record {
        binding = c.in_ok-bound.ensures.binding;
        counts = c.in_ok-kind.ensures.counts;
        kind_is = c.in_ok-kind.ensures.kind;
      };
      is = refl;
    })
