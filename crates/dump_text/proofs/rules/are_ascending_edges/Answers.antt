use Rattle.std.proofs.Common.{rules}
use Rattle.std.specs.Ordering.{is_lt}
use Rattle.lore_base.specs.Walks.{edge_cmp}
use Rattle.std.proofs.lemmas.List.Sorted.{answers_always}
use Rattle.dump_text.proofs.OrderLaws.{edges_told}
use Rattle.dump_text.proofs.rules.are_ascending_edges.Goals as goal

pub returns : goal.returns
returns c =
    edges_told c.args.edges.now c.is_sorted_by.result
    (c.is_sorted_by.ensures.cases (λ a b. is_lt (edge_cmp a b)) (answers_always _ _ _ (λ f a r g called. search rules)))
