use Rattle.std.proofs.Common.{◌+◌, Some, ap, subst, arith, Contains}
use Rattle.lore_base.specs.Databases.{IsLive}
use Rattle.doem_history.specs.Histories.{KeptHistory, moment_at}
use Rattle.doem_history.proofs.ViewLaws.{value_told, not_live, one_value_at}
use Rattle.doem_history.proofs.history.History.value_at.Goals as goal

pub returns-in-Some-clause-found : goal.returns-in-Some-clause-found
returns-in-Some-clause-found c =
    let last = ap (λ (h : KeptHistory). h.last) c.self.view_is in
    let within = c.requires in
    subst (λ (h : KeptHistory). Contains (moment_at h c.args.moment).objects (c.args.oid, c.in-Some.object.now.1)) c.self.view_is
    (value_told (c.self.inside.last + 1) c.args.moment c.self.inside.objects.runs c.args.oid c.in-Some.object.now c.self.invariant.objects.facts (omega arith) c.in-Some.ensures.some)

pub returns-in-Some-clause-only : goal.returns-in-Some-clause-only
returns-in-Some-clause-only c value at =
    ap Some (one_value_at c.args.self.now c.args.moment c.args.oid c.in-Some.object.now.1 value (returns-in-Some-clause-found c) at)

pub returns-in-None-clause-none : goal.returns-in-None-clause-none
returns-in-None-clause-none c =
    subst (λ (h : KeptHistory). IsLive (moment_at h c.args.moment).objects c.args.oid → ⊥) c.self.view_is
    (not_live c.args.moment c.self.inside.objects.runs c.args.oid c.in-None.ensures.none)

pub returns-in-None-clause-only : goal.returns-in-None-clause-only
returns-in-None-clause-only c value at = absurd (returns-in-None-clause-none c (value, at))
