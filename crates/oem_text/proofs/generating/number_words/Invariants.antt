use Rattle.std.proofs.Common.{◌≡◌, ◌≤◌, ◌++◌, ℕ, List, length, map, take}
use Rattle.oem_labels.specs.Labels.{label_in}
use Rattle.oem_text.specs.Types.{LABELS}
use Rattle.oem_text.specs.Layouts.{table_of, with_texts}
use Rattle.oem_text.specs.Generated.{generated_labels}
use Rattle.oem_text.proofs.generating.number_words.Given as goal

abbrev pub invariant-words : goal.invariant-words
invariant-words l = record {
  labels : (more : List (List ℕ)) → l.labels.items ≡ map (label_in (table_of l.numbers ++ more)) (take l.word-index generated_labels);
  texts : l.numbers ≡ with_texts l.fn.numbers (take l.word-index generated_labels);
  few : length (table_of l.numbers) ≤ LABELS;
}
