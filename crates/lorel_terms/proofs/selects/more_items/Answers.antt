use Rattle.std.proofs.Common.{map, rules, arith}
use Rattle.std.proofs.lemmas.Grind.{common_steps}
use Rattle.lorel_tokens.specs.declared.token_types.Sign.TheVariants as s
use Rattle.lorel_trees.specs.Trees.{item_tree}
use Rattle.lorel_terms.specs.Outcomes.{sees}
use Rattle.lorel_terms.specs.Repetitions.{each_in}
use Rattle.lorel_terms.specs.Selects as spec
use Rattle.lorel_terms.proofs.TurnLaws.{one_more}
use Rattle.lorel_terms.proofs.selects.more_items.Goals as goal

pub returns-then-not-eat : goal.returns-then-not-eat
unfolding each_in
returns-then-not-eat c =
    let turn = one_more (λ n. each_in (sees s.Comma) spec.item n (map item_tree c.turns.found) c.turns.tokens) _ c.turns._turn c.turns-test.true c.turns.invariant in
    first_of (search rules, grind (arith, common_steps))

pub turns-preserved : goal.turns-preserved
unfolding each_in
turns-preserved c =
    let turn = one_more (λ n. each_in (sees s.Comma) spec.item n (map item_tree c.turns.found) c.turns.tokens) _ c.turns._turn c.turns-test.true c.turns.invariant in
    first_of (search rules, grind (arith, common_steps))
