use Rattle.std.proofs.Common.{subst}
use Rattle.lore_base.specs.Comparisons.{Compares}
use Rattle.member_clues.specs.Types.{Op}
use Rattle.member_clues.proofs.TurnedLaws.{equal_turned, less_turned, up_to_turned, more_turned, from_turned}
use Rattle.member_clues.proofs.sides.turned.Goals as goal

pub returns-in-Lt-clause-turned : goal.returns-in-Lt-clause-turned
returns-in-Lt-clause-turned c = λ a b compares. less_turned a b (subst (λ (o : Op). Compares a o b) c.in-Lt.is compares)

pub returns-in-Le-clause-turned : goal.returns-in-Le-clause-turned
returns-in-Le-clause-turned c = λ a b compares. up_to_turned a b (subst (λ (o : Op). Compares a o b) c.in-Le.is compares)

pub returns-in-Gt-clause-turned : goal.returns-in-Gt-clause-turned
returns-in-Gt-clause-turned c = λ a b compares. more_turned a b (subst (λ (o : Op). Compares a o b) c.in-Gt.is compares)

pub returns-in-Ge-clause-turned : goal.returns-in-Ge-clause-turned
returns-in-Ge-clause-turned c = λ a b compares. from_turned a b (subst (λ (o : Op). Compares a o b) c.in-Ge.is compares)

pub returns-in-Eq-clause-turned : goal.returns-in-Eq-clause-turned
returns-in-Eq-clause-turned c = λ a b compares. equal_turned a b (subst (λ (o : Op). Compares a o b) c.in-Eq.is compares)

pub returns-in-Ne-clause-turned : goal.returns-in-Ne-clause-turned
returns-in-Ne-clause-turned c = absurd (c.requires.no_other c.in-Ne.is)

pub returns-in-Like-clause-turned : goal.returns-in-Like-clause-turned
returns-in-Like-clause-turned c = absurd (c.requires.no_pattern c.in-Like.is)
