use Rattle.link_index.specs.inside.Records.{IsStart}
use Rattle.link_index.proofs.chains.climbed.Given as goal

abbrev pub invariant-strides : goal.invariant-strides
invariant-strides l = IsStart l.records l.link l.latest
