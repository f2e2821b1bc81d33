use Rattle.std.proofs.Common.{rules}
use Rattle.std.proofs.lemmas.List.Sorted.{answers_always}
use Rattle.edge_lists.proofs.ObjectLaws.{found_oid}
use Rattle.graph_changes.proofs.PairLaws.{any_object}
use Rattle.graph_changes.proofs.RecordLaws.{gap-at, live-at}
use Rattle.graph_changes.proofs.object_changes.gap_of.Goals as goal

pub returns-in-Ok-clause-live : goal.returns-in-Ok-clause-live
returns-in-Ok-clause-live c =
    let equal = c.in-Ok.ensures.position (λ o. o.oid) (answers_always _ _ _ (λ f a r g called. search rules)) in
    live-at _ _ _ any_object c.in-Ok.ensures.bound (found_oid _ _ _ any_object c.in-Ok.ensures.bound (equal any_object))

pub returns-in-Err-clause-gap : goal.returns-in-Err-clause-gap
returns-in-Err-clause-gap c =
    let gap = c.in-Err.ensures.position (λ o. o.oid) (answers_always _ _ _ (λ f a r g called. search rules)) in
    gap-at _ c.requires _ _ c.in-Err.ensures.bound gap
