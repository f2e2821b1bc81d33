use Rattle.std.proofs.Common.{◌≡◌, map, refl, ◌∙◌}
use Rattle.oem_labels.specs.Labels.{label_in}
use Rattle.oem_text.specs.Layouts.{table_of, with_texts}
use Rattle.oem_text.specs.Generated.{generated_labels}
use Rattle.oem_text.proofs.GeneratedPartLaws.{when_some, labels_by, edges_by}
use Rattle.oem_text.proofs.generating.generated.Goals as goal

pub returns-clause-part : goal.returns-clause-part
returns-clause-part c =
    let table = c.args.labels.now in
    let start = c.in-Some.numbers in
    let first = c.in-Some.ensures.some in
    let numbers = c.number_words.new.numbers in
    let found = c.in_ok-numbered.field-0 in
    let step = when_some found c.in-Some-2.numbered c.in-Some-2.is (λ _. numbers ≡ with_texts start generated_labels) c.in_ok-numbered.ensures.texts in
    let words = when_some found c.in-Some-2.numbered c.in-Some-2.is (λ words. words.items ≡ map (label_in (table_of numbers)) generated_labels)
    c.in_ok-numbered.ensures.labels in
    let texts = c.in_ok-texts.ensures.texts in
    record {
      made = c.in_ok-objects_of.ensures;
      added = edges_by table c.in_ok-texts.field-0 c.args.next c.args.count start numbers c.in_ok-edges_of.field-0 first step texts
          (c.in_ok-edges_of.ensures (table_of numbers) (c.as_slice-2.ensures.value ∙ words));
      labels = texts ∙ labels_by table start numbers first step;
      root = refl;
    }
