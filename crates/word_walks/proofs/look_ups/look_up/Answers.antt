use Rattle.std.proofs.Common.{sym, subst}
use Rattle.lore_base.specs.Paths.{PathTree}
use Rattle.word_walks.specs.inside.LookUps.{IsLookedUp}
use Rattle.word_walks.proofs.WordLaws.{step_tree}
use Rattle.word_walks.proofs.look_ups.look_up.Goals as goal

pub returns-in-Step : goal.returns-in-Step
returns-in-Step c =
    subst (λ (tree : PathTree). IsLookedUp c.args.labels.now tree c.look_up_pattern.result) (sym (step_tree c.args.path.now c.in-Step.pattern c.in-Step.is))
    c.look_up_pattern.ensures
