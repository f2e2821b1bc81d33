use Rattle.std.proofs.Common.{codes, rules, arith}
use Rattle.std.proofs.lemmas.Grind.{common_steps}
use Rattle.lorel_terms.specs.Outcomes.{sees_word}
use Rattle.lorel_terms.specs.Names.{label}
use Rattle.lorel_terms.specs.Repetitions.{each_in}
use Rattle.lorel_terms.proofs.TurnLaws.{one_more}
use Rattle.lorel_parse.proofs.dump_texts.dump_labels.Goals as goal

pub returns-then-not-eat_word : goal.returns-then-not-eat_word
unfolding each_in
returns-then-not-eat_word c =
    let turn = one_more (λ n. each_in (sees_word (codes "label")) label n c.turns.labels c.turns.tokens) _ c.turns._turn c.turns-test.true c.turns.invariant in
    first_of (search rules, grind (arith, common_steps))

pub turns-preserved : goal.turns-preserved
unfolding each_in
turns-preserved c =
    let turn = one_more (λ n. each_in (sees_word (codes "label")) label n c.turns.labels c.turns.tokens) _ c.turns._turn c.turns-test.true c.turns.invariant in
    first_of (search rules, grind (arith, common_steps))
