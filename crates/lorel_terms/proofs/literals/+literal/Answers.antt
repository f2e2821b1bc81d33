use Rattle.std.proofs.Common.{rules, arith}
use Rattle.std.proofs.lemmas.Grind.{common_steps}
use Rattle.lorel_tokens.specs.declared.token_types.Sign.TheVariants as s
use Rattle.lorel_trees.specs.Trees.{member_trees}
use Rattle.lorel_terms.specs.Outcomes.{sees}
use Rattle.lorel_terms.specs.Repetitions.{each_in}
use Rattle.lorel_terms.specs.Literals.{inside, member}
use Rattle.lorel_terms.proofs.TurnLaws.{one_more, deeper}
use Rattle.lorel_terms.proofs.literals.+literal.Goals as goal

pub inside-returns : goal.inside-returns
unfolding inside
inside-returns t c = rw (deeper (λ n. inside n c.args.tokens.now) c.args.depth (omega arith)) c.members.ensures

pub more_members-returns-then-not-eat : goal.more_members-returns-then-not-eat
unfolding each_in
more_members-returns-then-not-eat t c =
    let turn = one_more (λ n. each_in (sees s.Comma) (member (inside c.args.depth)) n (member_trees c.turns.members) c.turns.tokens) _ c.turns._turn c.turns-test.true c.turns.invariant in
    first_of (search rules, grind (arith, common_steps))

pub more_members-turns-preserved : goal.more_members-turns-preserved
unfolding each_in
more_members-turns-preserved t c =
    let turn = one_more (λ n. each_in (sees s.Comma) (member (inside c.args.depth)) n (member_trees c.turns.members) c.turns.tokens) _ c.turns._turn c.turns-test.true c.turns.invariant in
    first_of (search rules, grind (arith, common_steps))
