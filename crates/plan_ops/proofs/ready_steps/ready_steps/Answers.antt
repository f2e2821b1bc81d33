use Rattle.std.proofs.Common.{All, sym, subst}
use Rattle.std.proofs.lemmas.List.Elements.{All-push}
use Rattle.plan_ops.specs.inside.Ready.{HasFound}
use Rattle.plan_ops.proofs.ReadyLaws.{ready_more, can_at}
use Rattle.plan_ops.proofs.ready_steps.ready_steps.Goals as goal

pub ready_step-requires : goal.ready_step-requires
ready_step-requires g c = can_at c.args.steps.now c.steps.step-index c.step-item.result c.requires c.steps-test.true c.step-item.is

pub steps-preserved : goal.steps-preserved
steps-preserved g c =
    let one = c.in_ok-ready_step.field-0 in
    record {
      trees = ready_more c.steps.ready.items c.push.new.self.items one c.args.steps.now c.steps.step-index c.step-item.result
          c.in_ok-push.ensures.items c.steps.invariant.trees c.in_ok-ready_step.ensures.tree c.steps-test.true c.step-item.is;
      found = subst (All (HasFound c.args.labels.now (g.P.Paths.reaches c.args.paths.now))) (sym c.in_ok-push.ensures.items)
          (All-push (HasFound c.args.labels.now (g.P.Paths.reaches c.args.paths.now)) c.steps.ready.items one c.steps.invariant.found c.in_ok-ready_step.ensures.found);
    }
