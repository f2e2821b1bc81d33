use Rattle.std.proofs.Common.{ℕ, List, [], ◌∷◌, ◌++◌, sym, ap, ◌∙◌}
use Rattle.list_laws.proofs.PartLaws.{take_more_read}
use Rattle.dump_text.proofs.EntryLaws.{found_twice, one_apart}
use Rattle.dump_text.proofs.edges.label_table.Goals as goal

pub returns-in-Some-clause-none : goal.returns-in-Some-clause-none
returns-in-Some-clause-none c =
    found_twice c.args.texts.now c.texts.table c.texts.text-index c.text-item.result c.texts-test.true c.text-item.is
    c.texts.invariant.table c.in-Some.field-0 c.in-Some.ensures.found

pub texts-preserved : goal.texts-preserved
texts-preserved c =
    let texts = c.args.texts.now in
    let text = c.text-item.result in
    let low = c.texts-test.true in
    record {
      table = c.in_ok-push-in-None.ensures.ok ∙ ap (λ (l : List (List ℕ)). l ++ text ∷ []) c.texts.invariant.table
          ∙ sym (take_more_read texts c.texts.text-index text low c.text-item.is);
      distinct = one_apart texts c.texts.table c.texts.text-index text low c.text-item.is c.texts.invariant.table
          c.in-None.ensures.none c.texts.invariant.distinct;
    }
