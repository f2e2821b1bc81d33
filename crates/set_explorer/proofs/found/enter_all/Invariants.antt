use Rattle.set_explorer.proofs.FoundSteps.{IsEntering}
use Rattle.set_explorer.proofs.found.enter_all.Given as goal

abbrev pub invariant-targets : goal.invariant-targets
invariant-targets g l = IsEntering l.guide.nodes.now l.limit l.fn.found l.fn.targets.items l.yielded
    l.key-iterator.rest.items l.row l.found
