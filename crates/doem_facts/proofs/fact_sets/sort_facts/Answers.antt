use Rattle.std.proofs.Common.{rules, ap}
use Rattle.std.specs.Ordering.{is_lt}
use Rattle.std.proofs.lemmas.List.MinMax.{ranks_by}
use Rattle.std.proofs.lemmas.List.Sorted.{answers_always}
use Rattle.doem_facts.proofs.FactSetLaws.{sorted_ascends}
use Rattle.doem_facts.proofs.fact_sets.sort_facts.Goals as goal

pub returns-clause-ascend : goal.returns-clause-ascend
returns-clause-ascend g c = λ distinct once.
    sorted_ascends g.F.Fact.order g.met.F.Fact.total _ _ c.sort_unstable_by.ensures.permutation
    (c.sort_unstable_by.ensures.sorted (λ a b. is_lt (g.F.Fact.order a b)) (ranks_by g.met.F.Fact.total (λ (x : g.row.F.Denot). x)) (answers_always _ _ _ (λ f a r q k. ap is_lt (search rules)))) distinct once
