use Rattle.std.proofs.Common.{◌↔◌, List, map, subst}
use Rattle.std.proofs.lemmas.List.{drop_all}
use Rattle.lorel_bound.specs.declared.conditions.BoundCond.{BoundCond}
use Rattle.lorel_bound.specs.Bound.{BoundPathTree, bound_cond, conds_from}
use Rattle.lorel_bound.specs.Conditions.{CondOf}
use Rattle.lorel_bound.specs.Plans.{IsFirstFitting}
use Rattle.planner.specs.inside.Probes.{probe_tree}
use Rattle.planner.proofs.ProbeLaws.{first_fits, first_is_later}
use Rattle.planner.proofs.probes.first_fitting.Goals as goal

pub members-init : goal.members-init
members-init c = λ probe.
    subst (λ (trees : List (CondOf BoundPathTree)). IsFirstFitting (conds_from (map bound_cond c.as_slice-member-items.result.now)) probe ↔ IsFirstFitting (conds_from trees) probe)
    c.as_slice-member-items.ensures.trees (λ first. first, λ first. first)

pub returns-in-Some-clause-some : goal.returns-in-Some-clause-some
returns-in-Some-clause-some c =
    (c.members.invariant (probe_tree c.in-Some.probe)).0
    (first_fits c.as_slice-member-items.result.now c.members.member-index c.member-item.result (probe_tree c.in-Some.probe)
    c.members-test.true c.member-item.is c.in-Some.ensures.some)

pub members-preserved : goal.members-preserved
members-preserved c = λ probe.
    let later = first_is_later c.as_slice-member-items.result.now c.members.member-index c.member-item.result probe
    c.members-test.true c.member-item.is c.in-None.ensures.none in
    (λ first. (c.members.invariant probe).0 (later.0 first), λ first. later.1 ((c.members.invariant probe).1 first))

pub returns-clause-none : goal.returns-clause-none
returns-clause-none c = λ probe first.
    subst (λ (left : List BoundCond). IsFirstFitting (conds_from (map bound_cond left)) probe)
    (drop_all c.members.member-index c.as_slice-member-items.result.now c.members-test.false)
    ((c.members.invariant probe).1 first)
