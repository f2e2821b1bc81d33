use Rattle.std.proofs.Common.{Option, Some, subst}
use Rattle.doem_history.specs.Histories.{KeptHistory, moments_of}
use Rattle.doem_history.specs.Plans.{PlannedMoment}
use Rattle.kept_history.specs.Kept.{AppendsTo}
use Rattle.kept_history.proofs.MomentLaws.{last_is}
use Rattle.kept_history.proofs.changes.commit_moment.Goals as goal

pub returns-clause-last : goal.returns-clause-last
returns-clause-last c = λ after appends.
    let kept = subst (λ (o : Option KeptHistory). AppendsTo o c.args.plan after) c.in-Some.is appends in
    let both = subst (λ (p : Option PlannedMoment). AppendsTo (Some c.in-Some.history) p after) c.in-Some-plan.is kept in
    last_is c.commit.new.self (moments_of c.in-Some.history) after (c.commit.ensures after both)
