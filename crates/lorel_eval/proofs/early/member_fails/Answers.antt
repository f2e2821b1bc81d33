use Rattle.std.proofs.Common.{true≢false, sym, ◌∙◌}
use Rattle.lorel_eval.specs.inside.Ready.{ready_tree}
use Rattle.lorel_eval.proofs.EarlyLaws.{fails_by_known}
use Rattle.lorel_eval.proofs.early.member_fails.Goals as goal

pub returns : goal.returns
returns g c = λ yes.
    fails_by_known c.args.subject.now c.args.known.now (ready_tree c.args.cond.now) (c.is_due.ensures c.if-not-is_due.false)
    (λ holds. true≢false (sym (c.in_ok-cond_holds.ensures.1 holds) ∙ c.if-branch.false))
