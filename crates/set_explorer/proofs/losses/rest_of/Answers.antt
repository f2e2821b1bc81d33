use Rattle.std.proofs.Common.{List, subst}
use Rattle.std.proofs.lemmas.List.{take_all}
use Rattle.set_explorer.specs.Types.{Oid, Label}
use Rattle.set_explorer.specs.inside.Losses.{AreRest}
use Rattle.set_explorer.proofs.LossLaws.{rest-step}
use Rattle.set_explorer.proofs.losses.rest_of.Goals as goal

pub steps-preserved : goal.steps-preserved
steps-preserved c =
    rest-step c.args.gone.now c.args.back.now c.steps.step-index c.step-item.result c.steps.rest.items c.push.new.self.items
    c.in_ok-left.left c.steps-test.true c.step-item.is c.steps.invariant c.in_ok-left.ensures c.in_ok-push.ensures.items

pub returns : goal.returns
returns c =
    subst (λ (l : List (Label × List Oid)). AreRest l c.args.back.now c.steps.rest.items)
    (take_all c.steps.step-index c.args.gone.now c.steps-test.false) c.steps.invariant
