use Rattle.std.proofs.Common.{rules}
use Rattle.std.specs.Ordering.{is_lt}
use Rattle.lore_base.specs.Bytes.{bytes_cmp}
use Rattle.std.proofs.lemmas.List.Sorted.{answers_always}
use Rattle.dump_text.proofs.OrderLaws.{names_told}
use Rattle.dump_text.proofs.rules.are_ascending_names.Goals as goal

pub returns : goal.returns
returns c =
    names_told c.args.names.now c.is_sorted_by.result
    (c.is_sorted_by.ensures.cases (λ a b. is_lt (bytes_cmp a.0 b.0)) (answers_always _ _ _ (λ f a r g called. search rules)))
