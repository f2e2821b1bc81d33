use Rattle.std.proofs.Common.{take}
use Rattle.doem_facts.proofs.FactSetLaws.{AreLeft}
use Rattle.doem_facts.proofs.fact_sets.without.Given as goal

abbrev pub invariant-facts : goal.invariant-facts
invariant-facts g l = AreLeft g.F.Fact.order (take l.fact-index l.facts) l.others l.only
