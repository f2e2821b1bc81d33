use Rattle.std.proofs.Common.{◌≡◌, ℕ, ltb, List, subst, rules}
use Rattle.std.specs.List.{IsAllAdjacentAnswer}
use Rattle.std.proofs.lemmas.List.Sorted.{answers_always}
use Rattle.oem_text.proofs.MarkLaws.{ascend_told, double_told, same_mark}
use Rattle.oem_text.proofs.places.ascending.Goals as goal

pub returns-then-is_sorted_by-clause-some : goal.returns-then-is_sorted_by-clause-some
returns-then-is_sorted_by-clause-some c = c.sort_set.ensures.members same_mark

pub returns-then-is_sorted_by-clause-ascend : goal.returns-then-is_sorted_by-clause-ascend
returns-then-is_sorted_by-clause-ascend c =
    let next = c.is_sorted_by.ensures.cases (λ a b. ltb a.0 b.0) (answers_always _ _ _ (λ f a r g called. search rules)) in
    ascend_told c.sort_set.new.self c.is_sorted_by.result c.if-is_sorted_by.true c.sort_set.ensures.ascend
    (subst (λ (l : List (ℕ × ℕ)). IsAllAdjacentAnswer (λ a b answer. answer ≡ ltb a.0 b.0) l c.is_sorted_by.result) c.as_slice.ensures next)

pub returns-else-is_sorted_by-clause-none : goal.returns-else-is_sorted_by-clause-none
returns-else-is_sorted_by-clause-none c =
    let next = c.is_sorted_by.ensures.cases (λ a b. ltb a.0 b.0) (answers_always _ _ _ (λ f a r g called. search rules)) in
    double_told c.sort_set.new.self c.args.marks c.is_sorted_by.result c.if-is_sorted_by.false c.sort_set.ensures.ascend
    (c.sort_set.ensures.members same_mark)
    (subst (λ (l : List (ℕ × ℕ)). IsAllAdjacentAnswer (λ a b answer. answer ≡ ltb a.0 b.0) l c.is_sorted_by.result) c.as_slice.ensures next)
