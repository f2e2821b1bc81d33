use Rattle.std.proofs.Common.{ltb, rules}
use Rattle.std.proofs.lemmas.List.Sorted.{answers_always}
use Rattle.dump_text.proofs.OrderLaws.{objects_told}
use Rattle.dump_text.proofs.rules.are_ascending_objects.Goals as goal

pub returns : goal.returns
returns c =
    objects_told c.args.objects.now c.is_sorted_by.result
    (c.is_sorted_by.ensures.cases (λ a b. ltb a.0.0 b.0.0) (answers_always _ _ _ (λ f a r g called. search rules)))
