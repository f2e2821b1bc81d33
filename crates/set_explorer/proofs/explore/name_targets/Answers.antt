use Rattle.std.proofs.Common.{◌∙◌, arith}
use Rattle.set_explorer.proofs.PlanLaws.{targets-end}
use Rattle.set_explorer.proofs.explore.name_targets.Goals as goal

pub returns-clause-targets : goal.returns-clause-targets
returns-clause-targets c =
    targets-end c.args.names.now c.names.targets.items c.as_slice-oids.result.now c.names.text-iterator.rest.items
    (omega (arith, c.in-None.ensures.steps.0, c.names.text-iterator.rest.ok.0)) c.names.invariant.names
    (c.as_slice-oids.ensures ∙ c.in_ok-objects.ensures) c.names.invariant.sets
