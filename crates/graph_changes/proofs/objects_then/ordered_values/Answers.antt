use Rattle.std.proofs.Common.{rules}
use Rattle.std.proofs.lemmas.List.Sorted.{IsNonDecreasingBy-from_sort_by_key}
use Rattle.graph_changes.proofs.LeftLaws.{values-ordered}
use Rattle.graph_changes.proofs.objects_then.ordered_values.Goals as goal

pub returns : goal.returns
returns c =
    let sorted = c.sort_unstable_by_key.ensures in
    values-ordered _ _ _ c.requires c.in_ok-values.ensures sorted.permutation
    (IsNonDecreasingBy-from_sort_by_key (λ o. o.0.0) _ sorted.sorted (λ a r q k. search rules))
