use Rattle.edge_lists.specs.Probes.{IsFurther}
use Rattle.edge_lists.proofs.probes.probed.Given as goal

abbrev pub invariant-probes : goal.invariant-probes
invariant-probes l = IsFurther l.side l.records l.edge l.come l.key l.best
