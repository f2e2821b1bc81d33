use Rattle.std.proofs.Common.{sym, rules}
use Rattle.std.proofs.lemmas.List.Sorted.{answers_always}
use Rattle.oem_text.proofs.MarkLaws.{place_known, place_none, found_mark, no_mark}
use Rattle.oem_text.proofs.places.place_of.Goals as goal

pub returns-in-Some : goal.returns-in-Some
returns-in-Some c = sym (place_known c.args.marks.now c.requires c.args.number c.in-Some.place c.in-Some.ensures)

pub returns-in-Ok : goal.returns-in-Ok
returns-in-Ok c =
    let equal = c.in-Ok.ensures.position (λ mark. mark.0) (answers_always _ _ _ (λ f a r g called. search rules)) in
    sym (place_known c.args.marks.now c.requires c.args.number _ (found_mark _ _ _ _ c.in-Ok.ensures.bound (equal _)))

pub returns-in-Err : goal.returns-in-Err
returns-in-Err c =
    let gap = c.in-Err.ensures.position (λ mark. mark.0) (answers_always _ _ _ (λ f a r g called. search rules)) in
    sym (place_none c.args.marks.now c.args.number (no_mark _ c.requires _ _ gap))
