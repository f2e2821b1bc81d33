use Rattle.link_index.specs.inside.Records.{IsStart}
use Rattle.link_index.proofs.chains.start_near.Given as goal

abbrev pub invariant-steps : goal.invariant-steps
invariant-steps l = IsStart l.records l.link l.place
