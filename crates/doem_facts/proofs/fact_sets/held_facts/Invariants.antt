use Rattle.std.proofs.Common.{◌≡◌, take}
use Rattle.doem_facts.specs.Held.{facts_at}
use Rattle.doem_facts.proofs.fact_sets.held_facts.Given as goal

abbrev pub invariant-runs : goal.invariant-runs
invariant-runs g l = l.facts.items ≡ facts_at l.moment (take l.run-index l.runs)
