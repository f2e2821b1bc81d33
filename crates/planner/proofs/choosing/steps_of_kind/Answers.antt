use Rattle.lorel_bound.specs.Bound.{bound_tree}
use Rattle.planner.specs.inside.Probes.{probe_tree}
use Rattle.planner.proofs.TakenLaws.{slot_within}
use Rattle.planner.proofs.choosing.steps_of_kind.Goals as goal

pub steps_from_values-requires-clause-within : goal.steps_from_values-requires-clause-within
steps_from_values-requires-clause-within c =
    slot_within (bound_tree c.args.bound.now) c.args.beginning.now.named (probe_tree c.args.beginning.now.probe) c.requires.runnable c.requires.can
