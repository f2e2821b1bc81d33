use Rattle.std.proofs.Common.{◌≡◌, codes, ap, ◌∙◌, rules, arith}
use Rattle.std.proofs.lemmas.Grind.{common_steps}
use Rattle.lorel_trees.specs.Trees.{cond_trees}
use Rattle.lorel_terms.specs.Conditions.{others_from, conj, cond, enclosed, unary}
use Rattle.lorel_terms.proofs.TurnLaws.{one_more, deeper}
use Rattle.lorel_terms.proofs.ConditionReadingLaws.{cond-enclosed_zero}
use Rattle.lorel_terms.proofs.conditions.+condition.Goals as goal

pub enclosed-returns : goal.enclosed-returns
unfolding enclosed
enclosed-returns t c = rw (deeper (λ n. enclosed n c.args.tokens.now) c.args.depth (omega arith)) c.single.ensures

pub enclosed_condition-returns-then-depth-eq0 : goal.enclosed_condition-returns-then-depth-eq0
enclosed_condition-returns-then-depth-eq0 t c =
    let none : c.args.depth ≡ 0 = omega arith in
    ap (λ n. cond (enclosed n) c.args.tokens.now) none ∙ cond-enclosed_zero c.args.tokens.now

pub enclosed_condition-returns : goal.enclosed_condition-returns
unfolding enclosed
enclosed_condition-returns t c = rw (deeper (λ n. cond (enclosed n) c.args.tokens.now) c.args.depth (omega arith)) c.condition.ensures

pub more_conjunctions-conjunctions-preserved : goal.more_conjunctions-conjunctions-preserved
unfolding others_from
more_conjunctions-conjunctions-preserved t c =
    let turn = one_more (λ n. others_from (codes "or") (conj (unary c.args.depth)) n (cond_trees c.conjunctions.found) c.conjunctions.tokens) _
    c.conjunctions._turn c.conjunctions-test.true c.conjunctions.invariant in
    first_of (search rules, grind (arith, common_steps))

pub more_singles-singles-preserved : goal.more_singles-singles-preserved
unfolding others_from
more_singles-singles-preserved t c =
    let turn = one_more (λ n. others_from (codes "and") (unary c.args.depth) n (cond_trees c.singles.found) c.singles.tokens) _
    c.singles._turn c.singles-test.true c.singles.invariant in
    first_of (search rules, grind (arith, common_steps))
