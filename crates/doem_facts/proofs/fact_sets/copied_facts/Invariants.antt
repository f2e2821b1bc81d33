use Rattle.std.proofs.Common.{◌≡◌, take}
use Rattle.doem_facts.proofs.fact_sets.copied_facts.Given as goal

abbrev pub invariant-facts : goal.invariant-facts
invariant-facts g l = l.copy.items ≡ take l.fact-index l.facts
