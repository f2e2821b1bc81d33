use Rattle.std.proofs.Common.{◌≤◌, arith, sym, subst}
use Rattle.lore_base.specs.declared.limits.TheConstants.{LEAVES}
use Rattle.lore_base.specs.Paths.{PathTree, path_tree, leaves}
use Rattle.index_traits.specs.Counts.{IsCount}
use Rattle.lorel_bound.specs.Bound.{bound_tree}
use Rattle.planner.specs.inside.Probes.{probe_tree}
use Rattle.planner.proofs.CountLaws.{few_joined_leaves, joined_to}
use Rattle.planner.proofs.counting.reached_count.Goals as goal

pub count-requires : goal.count-requires
count-requires g c =
    let probe = probe_tree c.args.beginning.now.probe in
    let path = joined_to c.args.bound.now probe c.as_slice.result.now c.split_at.result.0.now (path_tree c.in_ok-path.path)
    c.as_slice.ensures c.split_at.ensures.front c.in_ok-path.ensures in
    record {
      leaves = subst (λ (tree : PathTree). leaves tree ≤ LEAVES) (sym path) (few_joined_leaves (bound_tree c.args.bound.now) probe c.requires.runnable);
    }

pub overflow_cast-result : goal.overflow_cast-result
overflow_cast-result g c =
    let path = joined_to c.args.bound.now (probe_tree c.args.beginning.now.probe) c.as_slice.result.now c.split_at.result.0.now (path_tree c.in_ok-path.path)
    c.as_slice.ensures c.split_at.ensures.front c.in_ok-path.ensures in
    let reaches = λ (tree : PathTree). g.P.Paths.reaches c.args.paths.now tree c.args.beginning.now.named in
    let counted = subst (λ (tree : PathTree). IsCount (reaches tree) c.in_ok-number.number) path c.in_ok-number.ensures in
    omega (arith, c.requires.few counted.0 counted.1, counted.2)

pub returns : goal.returns
returns g c =
    let path = joined_to c.args.bound.now (probe_tree c.args.beginning.now.probe) c.as_slice.result.now c.split_at.result.0.now (path_tree c.in_ok-path.path)
    c.as_slice.ensures c.split_at.ensures.front c.in_ok-path.ensures in
    let reaches = λ (tree : PathTree). g.P.Paths.reaches c.args.paths.now tree c.args.beginning.now.named in
    subst (λ (tree : PathTree). IsCount (reaches tree) c.in_ok-number.number) path c.in_ok-number.ensures
