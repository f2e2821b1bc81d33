use Rattle.std.proofs.Common.{◌≤◌, ◌<◌, sym, arith}
use Rattle.oem_text.proofs.NumberLaws.{with_texts-none}
use Rattle.oem_text.proofs.LaidLaws.{few_more}
use Rattle.oem_text.proofs.GeneratedPartLaws.{words_length, word_here, words_more, texts_more, words_past, words_all, texts_all, words_few}
use Rattle.oem_text.proofs.generating.number_words.Goals as goal

pub words-init : goal.words-init
words-init c = record {
  labels = λ more. c.in_ok-labels.ensures.items;
  texts = sym (with_texts-none c.args.numbers.now);
  few = c.len-likely.ensures.few;
}

pub returns-in_default-clause-none : goal.returns-in_default-clause-none
returns-in_default-clause-none c =
    let i = c.words.word-index in
    let low : i < 10 = omega (arith, words_length c.args.words.now c.requires, c.words-test.true) in
    let taken = word_here c.args.words.now i _ c.in_ok-text.text c.requires low c.in_ok-text.ensures in
    words_past c.args.numbers.now c.words.numbers i c.in_ok-text.text taken c.words.invariant.texts
    (rw c.in_default.is at c.in_ok-label.ensures.none)

pub words-preserved : goal.words-preserved
words-preserved c =
    let i = c.words.word-index in
    let low : i < 10 = omega (arith, words_length c.args.words.now c.requires, c.words-test.true) in
    let taken = word_here c.args.words.now i _ c.in_ok-text.text c.requires low c.in_ok-text.ensures in
    let texts = rw c.in-Some.is at c.in_ok-label.ensures.texts in
    let after = c.number.new.self in
    record {
      labels = words_more c.words.numbers after i c.in_ok-text.text c.words.labels.items c.push.new.self.items c.in-Some.label taken texts
          c.words.invariant.labels c.in_ok-push.ensures.items (rw c.in-Some.is at c.in_ok-label.ensures.label);
      texts = texts_more c.args.numbers.now c.words.numbers after i c.in_ok-text.text taken c.words.invariant.texts texts;
      few = few_more c.words.numbers after c.in_ok-text.text texts (rw c.in-Some.is at c.in_ok-label.ensures.few);
    }

pub returns-clause-labels : goal.returns-clause-labels
returns-clause-labels c =
    let past : 10 ≤ c.words.word-index = omega (arith, words_length c.args.words.now c.requires, c.words-test.false) in
    words_all c.words.numbers c.words.labels.items c.words.word-index past c.words.invariant.labels

pub returns-clause-texts : goal.returns-clause-texts
returns-clause-texts c =
    let past : 10 ≤ c.words.word-index = omega (arith, words_length c.args.words.now c.requires, c.words-test.false) in
    texts_all c.args.numbers.now c.words.numbers c.words.word-index past c.words.invariant.texts

pub returns-clause-few : goal.returns-clause-few
returns-clause-few c =
    let past : 10 ≤ c.words.word-index = omega (arith, words_length c.args.words.now c.requires, c.words-test.false) in
    words_few c.args.numbers.now c.words.numbers c.words.word-index past c.words.invariant.texts c.words.invariant.few
