use Rattle.std.proofs.Common.{List, inl, inr, sym, ap, ◌∙◌}
use Rattle.std.proofs.lemmas.Result.{IfOk-weaker}
use Rattle.lorel_bound.specs.Bound.{BoundPathTree, bound_conds, conds_from}
use Rattle.lorel_bound.specs.Conditions.{CondOf, and}
use Rattle.select_hints.proofs.FormLaws.{and_cond}
use Rattle.select_hints.proofs.hints.members_of.Goals as goal

pub returns-in-And : goal.returns-in-And
returns-in-And c =
    IfOk-weaker c.try_copy.result _ _ (λ list same. inl (and_cond c.args.cond.now c.in-And.members c.in-And.is
    ∙ ap (λ (l : List (CondOf BoundPathTree)). and (conds_from l)) (sym same))) c.try_copy.ensures

pub returns-in_default : goal.returns-in_default
returns-in_default c = IfOk-weaker c.alone.result _ _ (λ list is. inr is) c.alone.ensures
