use Rattle.std.proofs.Common.{◌≡◌, ◌↔◌, List, length, map, take, sym, ap, ◌∙◌, subst, arith}
use Rattle.std.proofs.Math.Seq.{take-length}
use Rattle.lore_base.specs.Paths.{path_tree, trees_of, SpellInTurn}
use Rattle.lore_base.specs.declared.paths.Path.{Path}
use Rattle.word_walks.proofs.WordLaws.{label_more, label_lacks, other_part}
use Rattle.word_walks.proofs.only_words.word_in_turn.Goals as goal

pub parts-init : goal.parts-init
parts-init c = λ word. (λ none. none ∙ sym c.new-word.ensures, λ is. is ∙ c.new-word.ensures)

pub returns-in-Lacking-clause-word : goal.returns-in-Lacking-clause-word
returns-in-Lacking-clause-word c =
    label_lacks c.args.labels.now c.args.parts.now c.parts.part-index c.part-item.result c.parts-test.true c.part-item.is c.in-Lacking.ensures

pub returns-in-Other-clause-none : goal.returns-in-Other-clause-none
returns-in-Other-clause-none c = other_part c.args.parts.now c.parts.part-index c.part-item.result c.parts-test.true c.part-item.is c.in-Other.ensures

pub parts-preserved : goal.parts-preserved
parts-preserved c =
    label_more c.args.labels.now c.args.parts.now c.parts.part-index c.part-item.result c.parts.word c.push.new.self c.in-Found.label c.parts-test.true c.part-item.is
    c.in_ok-push-in-Found.ensures.ok c.parts.invariant c.in-Found.ensures

pub returns-clause-word : goal.returns-clause-word
returns-clause-word c = λ word.
    let done : c.parts.part-index ≡ length c.args.parts.now = omega (arith, c.parts-test.false, c.parts.auto.part-index-end) in
    subst (λ (l : List Path). SpellInTurn c.args.labels.now (trees_of (map path_tree l)) word ↔ (word ≡ c.parts.word))
    (ap (λ n. take n c.args.parts.now) done ∙ take-length c.args.parts.now) (c.parts.invariant word)
