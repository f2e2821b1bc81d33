use Rattle.std.proofs.Common.{rules}
use Rattle.std.proofs.lemmas.List.Sorted.{answers_always}
use Rattle.link_index.proofs.HeadLaws.{found_child, none_listed}
use Rattle.link_index.proofs.heads.place_of.Goals as goal

pub returns-in-Ok-clause-found : goal.returns-in-Ok-clause-found
returns-in-Ok-clause-found c d =
    let equal = c.in-Ok.ensures.position (λ o. o.child) (answers_always _ _ _ (λ f a r g called. search rules)) in
    found_child _ _ _ d c.in-Ok.ensures.bound (equal _)

pub returns-in-Err-clause-none : goal.returns-in-Err-clause-none
returns-in-Err-clause-none c =
    let gap = c.in-Err.ensures.position (λ o. o.child) (answers_always _ _ _ (λ f a r g called. search rules)) in
    none_listed _ c.requires _ _ gap
