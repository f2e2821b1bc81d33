use Rattle.std.proofs.Common.{rules}
use Rattle.std.proofs.lemmas.List.Sorted.{answers_always}
use Rattle.edge_lists.proofs.ObjectLaws.{found_oid, none_live, above_all}
use Rattle.edge_lists.proofs.objects.place_of.Goals as goal

pub returns-in-Ok-clause-found : goal.returns-in-Ok-clause-found
returns-in-Ok-clause-found c d =
    let equal = c.in-Ok.ensures.position (λ o. o.oid) (answers_always _ _ _ (λ f a r g called. search rules)) in
    found_oid _ _ _ d c.in-Ok.ensures.bound (equal _)

pub returns-in-Err-clause-none : goal.returns-in-Err-clause-none
returns-in-Err-clause-none c =
    let gap = c.in-Err.ensures.position (λ o. o.oid) (answers_always _ _ _ (λ f a r g called. search rules)) in
    none_live _ c.requires _ _ gap

pub returns-then-are_below-clause-none : goal.returns-then-are_below-clause-none
returns-then-are_below-clause-none c = above_all c.args.objects.now c.args.oid c.if-are_below.ensures
