use Rattle.std.proofs.Common.{Some, ap, rules}
use Rattle.std.proofs.lemmas.List.Sorted.{answers_always}
use Rattle.index_traits.proofs.ObjectLaws.{one_value_of}
use Rattle.graph_changes.proofs.ObjectLaws.{found_value, none_live}
use Rattle.graph_changes.proofs.object_lists.value_in.Goals as goal

pub returns-in-Some-clause-only : goal.returns-in-Some-clause-only
returns-in-Some-clause-only c value at = ap Some (one_value_of _ c.requires _ _ _ c.in-Some.ensures at)

pub returns-in-Ok-clause-found : goal.returns-in-Ok-clause-found
returns-in-Ok-clause-found c =
    let equal = c.in-Ok.ensures.position (λ object. object.0) (answers_always _ _ _ (λ f a r g called. search rules)) in
    found_value _ _ _ _ c.in-Ok.ensures.bound (equal _)

pub returns-in-Ok-clause-only : goal.returns-in-Ok-clause-only
returns-in-Ok-clause-only c value at =
    ap Some (one_value_of _ c.requires _ _ _ (returns-in-Ok-clause-found c) at)

pub returns-in-Err-clause-none : goal.returns-in-Err-clause-none
returns-in-Err-clause-none c =
    let gap = c.in-Err.ensures.position (λ object. object.0) (answers_always _ _ _ (λ f a r g called. search rules)) in
    none_live _ c.requires _ _ gap

pub returns-in-Err-clause-only : goal.returns-in-Err-clause-only
returns-in-Err-clause-only c value at = absurd (returns-in-Err-clause-none c (value, at))
