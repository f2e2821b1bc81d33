use Rattle.link_index.specs.inside.Records.{IsStart}
use Rattle.link_index.proofs.chains.latest.Given as goal

abbrev pub invariant-probes : goal.invariant-probes
invariant-probes l = IsStart l.records l.link l.latest
