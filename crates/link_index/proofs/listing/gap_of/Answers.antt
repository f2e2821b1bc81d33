use Rattle.std.proofs.Common.{rules}
use Rattle.std.proofs.lemmas.List.Sorted.{answers_always}
use Rattle.link_index.proofs.HeadLaws.{found_child, gap_at, listed_at, listed_some}
use Rattle.link_index.proofs.listing.gap_of.Goals as goal

pub returns-then-is_some-clause-listed : goal.returns-then-is_some-clause-listed
returns-then-is_some-clause-listed c = listed_some c.args.heads.now c.args.child c.place_of.result c.is_some.result c.is_some.ensures c.if-is_some.true c.place_of.ensures.inside c.place_of.ensures.found

pub returns-in-Ok-clause-listed : goal.returns-in-Ok-clause-listed
returns-in-Ok-clause-listed c =
    let equal = c.in-Ok.ensures.position (λ o. o.child) (answers_always _ _ _ (λ f a r g called. search rules)) in
    listed_at _ _ _ c.in-Ok.ensures.bound (λ d. found_child _ _ _ d c.in-Ok.ensures.bound (equal d))

pub returns-in-Err-clause-gap : goal.returns-in-Err-clause-gap
returns-in-Err-clause-gap c =
    let gap = c.in-Err.ensures.position (λ o. o.child) (answers_always _ _ _ (λ f a r g called. search rules)) in
    gap_at _ c.requires _ _ c.in-Err.ensures.bound gap
