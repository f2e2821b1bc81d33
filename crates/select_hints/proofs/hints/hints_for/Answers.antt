use Rattle.std.proofs.Common.{List, map, Option, IfSome, sym, ap, ◌∙◌, subst}
use Rattle.std.specs.Option.{option_copied}
use Rattle.lorel_bound.specs.declared.bound.Range.{Range}
use Rattle.lorel_bound.specs.declared.conditions.BoundCond.{BoundCond}
use Rattle.lorel_bound.specs.Bound.{range_tree, bound_cond}
use Rattle.select_hints.specs.inside.Moves.{IsLonger}
use Rattle.select_hints.proofs.HintLaws.{hints_found}
use Rattle.select_hints.proofs.hints.hints_for.Goals as goal

pub returns : goal.returns
returns c =
    hints_found c.args.bound.now c.in-Some.cond.now c.in_ok-found.found c.if_few.result (sym c.as_ref.ensures.value ∙ ap option_copied c.in-Some.is) c.requires
    (subst (λ (l : List Range). IfSome c.in_ok-found.found (λ more. IsLonger (map range_tree l) (bound_cond c.in-Some.cond.now) (bound_cond more)))
    c.as_slice.ensures c.in_ok-found.ensures) c.if_few.ensures.own c.if_few.ensures.few
