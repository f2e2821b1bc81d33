use Rattle.std.proofs.Common.{rules, arith}
use Rattle.std.proofs.lemmas.Grind.{common_steps}
use Rattle.lore_base.specs.Paths.{path_trees}
use Rattle.lorel_terms.specs.Paths.{inside, parts_from, choices_from}
use Rattle.lorel_terms.proofs.TurnLaws.{one_more, deeper}
use Rattle.lorel_terms.proofs.paths.+path.Goals as goal

pub inside-returns : goal.inside-returns
unfolding inside
inside-returns t c = rw (deeper (λ n. inside n c.args.tokens.now) c.args.depth (omega arith)) c.choices.ensures

pub parts-parts-preserved : goal.parts-parts-preserved
unfolding parts_from
parts-parts-preserved t c =
    let turn = one_more (λ n. parts_from (inside c.args.depth) n (path_trees c.parts.found) c.parts.tokens) _ c.parts._turn c.parts-test.true c.parts.invariant in
    first_of (search rules, grind (arith, common_steps))

pub more_choices-choices-preserved : goal.more_choices-choices-preserved
unfolding choices_from
more_choices-choices-preserved t c =
    let turn = one_more (λ n. choices_from (inside c.args.depth) n (path_trees c.choices.found) c.choices.tokens) _ c.choices._turn c.choices-test.true c.choices.invariant in
    first_of (search rules, grind (arith, common_steps))
