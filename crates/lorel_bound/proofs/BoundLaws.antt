-- Bound conditions as plain data, by their forms.
use Rattle.std.proofs.Common.{◌≡◌, List, sym, ap, ◌∙◌}
use Rattle.lorel_bound.specs.Types.{Op}
use Rattle.lorel_bound.specs.Conditions.{CondOf, exists, for_all, compare}
use Rattle.lorel_bound.specs.Bound.{BoundPathTree, bound_path, bound_operand, bound_cond, cond_step, conds_step}
use Rattle.lorel_bound.specs.declared.conditions.BoundPath.{BoundPath}
use Rattle.lorel_bound.specs.declared.conditions.BoundOperand.{BoundOperand}
use Rattle.lorel_bound.specs.declared.conditions.BoundCond.{BoundCond, Exists, ForAll, Compare}
use Rattle.lorel_bound.specs.declared.conditions.BoundCond.TheOpen as layer
use Rattle.lorel_bound.specs.declared.conditions.BoundCond.TheVariants.{rolls-Exists, rolls-ForAll, rolls-Compare}
use Rattle.lorel_bound.specs.declared.conditions.BoundCond.TheFolds.{fold-roll-BoundCond}

pub exists_cond : (cond body : BoundCond) (path : BoundPath) (held : _) → cond ≡ Exists path held → body ≡ held.value
    → bound_cond cond ≡ exists (bound_path path) (bound_cond body)
exists_cond cond body path held is boxed =
    ap bound_cond (is ∙ sym (rolls-Exists path held)) ∙ fold-roll-BoundCond (CondOf BoundPathTree) (List (CondOf BoundPathTree)) cond_step conds_step (layer.Exists path held)
    ∙ ap (λ (b : BoundCond). exists (bound_path path) (bound_cond b)) (sym boxed)

pub for_all_cond : (cond body : BoundCond) (path : BoundPath) (held : _) → cond ≡ ForAll path held → body ≡ held.value
    → bound_cond cond ≡ for_all (bound_path path) (bound_cond body)
for_all_cond cond body path held is boxed =
    ap bound_cond (is ∙ sym (rolls-ForAll path held)) ∙ fold-roll-BoundCond (CondOf BoundPathTree) (List (CondOf BoundPathTree)) cond_step conds_step (layer.ForAll path held)
    ∙ ap (λ (b : BoundCond). for_all (bound_path path) (bound_cond b)) (sym boxed)

pub compare_cond : (cond : BoundCond) (left : BoundOperand) (op : Op) (right : BoundOperand) → cond ≡ Compare left op right
    → bound_cond cond ≡ compare (bound_operand left) op (bound_operand right)
compare_cond cond left op right is = ap bound_cond (is ∙ sym (rolls-Compare left op right)) ∙ fold-roll-BoundCond (CondOf BoundPathTree) (List (CondOf BoundPathTree)) cond_step conds_step (layer.Compare left op right)
