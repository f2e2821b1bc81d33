use Rattle.std.proofs.Common.{◌≡◌, ◌≤◌, ◌+◌, take, ℕ}
use Rattle.std.specs.List.{sum_by}
use Rattle.doem_facts.specs.Types.{HISTORY_WEIGHT}
use Rattle.doem_facts.proofs.fact_sets.weigh.Given as goal

pub record SoFar (weight whole : ℕ) : Type 0 where
  pub is : weight ≡ whole
  pub light : weight ≤ HISTORY_WEIGHT

abbrev pub invariant-facts : goal.invariant-facts
invariant-facts g l = SoFar l.weight (l.fn.start + sum_by g.F.Fact.weight_of (take l.fact-index l.facts))
