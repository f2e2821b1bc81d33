use Rattle.std.proofs.Common.{rules}
use Rattle.std.proofs.lemmas.List.Sorted.{IsNonDecreasingBy-from_sort_by_key}
use Rattle.value_orders.proofs.BehindLaws.{behind-sorted}
use Rattle.value_orders.proofs.held.put_values.Goals as goal

pub returns-else-len-le-FEW-clause-put : goal.returns-else-len-le-FEW-clause-put
returns-else-len-le-FEW-clause-put c =
    let sorted = c.sort_unstable_by_key.ensures in
    behind-sorted c.args.given.items c.args.values.now.items _ _ c.requires.given c.requires.ascend c.put_behind.ensures.put sorted.permutation
    (IsNonDecreasingBy-from_sort_by_key (λ o. o.0.0) _ sorted.sorted (λ a r q k. search rules))
