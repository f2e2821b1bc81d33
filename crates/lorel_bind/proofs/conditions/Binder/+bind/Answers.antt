use Rattle.std.proofs.Common.{◌∙◌, length, map, sym, ap, subst, IfOk, refl}
use Rattle.list_laws.proofs.ZipLaws.{AllZip-map}
use Rattle.lorel_trees.specs.Trees.{cond_tree}
use Rattle.lorel_bound.specs.Bound.{bound_cond, bound_conds}
use Rattle.lorel_ranges.specs.Views.{texts}
use Rattle.lorel_bind.specs.inside.Binders.{BindsCond}
use Rattle.lorel_bind.proofs.SlotLaws.{pairs_read, all_pairs_read}
use Rattle.lorel_bind.proofs.BindLaws.{bound_exists, bound_for_all, bound_each, deep_read, compare_tree, same_tree}
use Rattle.lorel_bind.proofs.conditions.Binder.+bind.Goals as goal

pub cond-returns-in_ok-body-in-Exists : goal.cond-returns-in_ok-body-in-Exists
cond-returns-in_ok-body-in-Exists t c =
    let own = c.in-Exists in
    bound_exists c.args.self.now c.args.quantified.now c.as_slice-in-Exists.result.now c.args.cond.now own.variable own.path own.body
    c.deref-in-Exists.result.now c.in_ok-path-in-Exists.path c.in_ok-body-in-Exists.body c.in_ok-cond-in-Exists.field-0 _ own.is refl
    (ap texts c.as_slice-in-Exists.ensures.value ∙ c.in_ok-inner-in-Exists.ensures) c.deref-in-Exists.ensures c.in_ok-body-in-Exists.ensures.ok
    c.in_ok-path-in-Exists.ensures c.in_ok-cond-in-Exists.ensures

pub cond-returns-in_ok-body-in-ForAll : goal.cond-returns-in_ok-body-in-ForAll
cond-returns-in_ok-body-in-ForAll t c =
    let own = c.in-ForAll in
    bound_for_all c.args.self.now c.args.quantified.now c.as_slice-in-ForAll.result.now c.args.cond.now own.variable own.path own.body
    c.deref-in-ForAll.result.now c.in_ok-path-in-ForAll.path c.in_ok-body-in-ForAll.body c.in_ok-cond-in-ForAll.field-0 _ own.is refl
    (ap texts c.as_slice-in-ForAll.ensures.value ∙ c.in_ok-inner-in-ForAll.ensures) c.deref-in-ForAll.ensures c.in_ok-body-in-ForAll.ensures.ok
    c.in_ok-path-in-ForAll.ensures c.in_ok-cond-in-ForAll.ensures

pub cond-returns-in-Compare : goal.cond-returns-in-Compare
cond-returns-in-Compare t c =
    subst (λ tree. IfOk c.comparison.result (λ bound. BindsCond c.args.self.now c.args.quantified.now tree (bound_cond bound)))
    (sym (ap cond_tree c.in-Compare.is ∙ compare_tree c.in-Compare.left c.in-Compare.op c.in-Compare.right)) c.comparison.ensures

pub cond-returns-in-Same : goal.cond-returns-in-Same
cond-returns-in-Same t c =
    subst (λ tree. IfOk c.sameness.result (λ bound. BindsCond c.args.self.now c.args.quantified.now tree (bound_cond bound)))
    (sym (ap cond_tree c.in-Same.is ∙ same_tree c.in-Same.left c.in-Same.right)) c.sameness.ensures

pub conds-conds-preserved : goal.conds-conds-preserved
conds-conds-preserved t c = record {
  bound = rw c.in_ok-push.ensures.trees
      (pairs_read (λ cond made. BindsCond c.args.self.now c.args.quantified.now (cond_tree cond) made) c.args.conds.now (bound_conds c.conds.list)
      c.conds.cond-index c.cond-item.result (bound_cond c.in_ok-cond.field-0) c.conds-test.true c.cond-item.is c.conds.invariant.bound
      c.in_ok-cond.ensures);
  deep = deep_read c.args.conds.now (length c.args.quantified.now) c.conds.cond-index c.cond-item.result c.conds-test.true c.conds.invariant.deep;
}

pub conds-returns : goal.conds-returns
conds-returns t c =
    bound_each c.args.self.now c.args.quantified.now (map cond_tree c.args.conds.now) (bound_conds c.conds.list)
    (AllZip-map (BindsCond c.args.self.now c.args.quantified.now) cond_tree c.args.conds.now (bound_conds c.conds.list)
    (all_pairs_read (λ cond made. BindsCond c.args.self.now c.args.quantified.now (cond_tree cond) made) c.args.conds.now c.args.conds.now
    (bound_conds c.conds.list) c.conds.cond-index refl c.conds-test.false c.conds.invariant.bound))
