use Rattle.edge_lists.specs.Probes.{IsFurther}
use Rattle.edge_lists.proofs.probes.climbed.Given as goal

abbrev pub invariant-strides : goal.invariant-strides
invariant-strides l = IsFurther l.side l.records l.edge l.come l.key l.best
