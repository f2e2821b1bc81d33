use Rattle.std.proofs.lemmas.Result.{IfOk-weaker}
use Rattle.plan_ops.proofs.OfferLaws.{leading_one}
use Rattle.plan_ops.proofs.step_objects.leading_to.Goals as goal

pub returns : goal.returns
returns g c =
    IfOk-weaker c.leading_to_some.result _ _ (λ oids lists. leading_one _ _ _ _ _ _ oids c.new-ends.ensures c.in_ok-push.ensures.ok lists) c.leading_to_some.ensures.oids
