-- Bound conditions as plain data, by their forms.
use Rattle.std.proofs.Common.{◌≡◌, List, sym, ap, ◌∙◌}
use Rattle.lorel_bound.specs.Bound.{BoundPathTree, bound_path, bound_cond, bound_conds, cond_step, conds_step, conds_from}
use Rattle.lorel_bound.specs.Conditions as c
use Rattle.lorel_bound.specs.Conditions.{CondOf}
use Rattle.lorel_bound.specs.declared.conditions.BoundPath.{BoundPath}
use Rattle.lorel_bound.specs.declared.conditions.BoundCond.{BoundCond, And, Same}
use Rattle.lorel_bound.specs.declared.conditions.BoundCond.TheOpen as layer
use Rattle.lorel_bound.specs.declared.conditions.BoundCond.TheVariants.{rolls-And, rolls-Same}
use Rattle.lorel_bound.specs.declared.conditions.BoundCond.TheFolds.{fold-roll-BoundCond}
use Rattle.lorel_bound.specs.declared.conditions.BoundCondList.{BoundCondList}

pub and_cond : (cond : BoundCond) (members : BoundCondList) → cond ≡ And members → bound_cond cond ≡ c.and (conds_from (bound_conds members))
and_cond cond members is =
    ap bound_cond (is ∙ sym (rolls-And members)) ∙ fold-roll-BoundCond (CondOf BoundPathTree) (List (CondOf BoundPathTree)) cond_step conds_step (layer.And members)

pub same_cond : (cond : BoundCond) (left right : BoundPath) → cond ≡ Same left right → bound_cond cond ≡ c.same (bound_path left) (bound_path right)
same_cond cond left right is =
    ap bound_cond (is ∙ sym (rolls-Same left right)) ∙ fold-roll-BoundCond (CondOf BoundPathTree) (List (CondOf BoundPathTree)) cond_step conds_step (layer.Same left right)
