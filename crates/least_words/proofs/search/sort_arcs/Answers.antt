use Rattle.std.proofs.Common.{rules}
use Rattle.std.proofs.lemmas.List.Sorted.{IsNonDecreasingBy-from_sort_by_key}
use Rattle.least_words.specs.Types.{Arc}
use Rattle.least_words.proofs.search.sort_arcs.Goals as goal

pub returns-clause-ascend : goal.returns-clause-ascend
returns-clause-ascend c = IsNonDecreasingBy-from_sort_by_key (λ (arc : Arc). arc.label.0) _ c.sort_unstable_by_key.ensures.sorted (λ a r q k. search rules)
