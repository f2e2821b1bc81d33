use Rattle.std.proofs.Common.{◌+◌, ◌≤◌, length, map, take, drop}
use Rattle.std.specs.List.{AllZip}
use Rattle.lorel_trees.specs.Trees.{cond_tree, conds_from}
use Rattle.lorel_bind.specs.Types.{NESTING}
use Rattle.lorel_bound.specs.Bound.{bound_conds}
use Rattle.lorel_ranges.specs.Texts.{depth_of_all}
use Rattle.lorel_bind.specs.inside.Binders.{BindsCond}
use Rattle.lorel_bind.proofs.conditions.Binder.+bind.Given as goal

abbrev pub invariant-conds-conds : goal.invariant-conds-conds
invariant-conds-conds l = record {
  bound : AllZip (λ cond made. BindsCond l.self l.quantified (cond_tree cond) made) (take l.cond-index l.conds) (bound_conds l.list);
  deep : length l.quantified + depth_of_all (conds_from (map cond_tree (drop l.cond-index l.conds))) ≤ NESTING;
}
