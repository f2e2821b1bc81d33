use Rattle.std.proofs.Common.{refl, arith}
use Rattle.product_walk.proofs.LevelLaws.{adjacent_pairs}
use Rattle.word_walks.proofs.levels.ascends.Goals as goal

pub returns : goal.returns
returns c = (λ yes. adjacent_pairs c.args.oids.now (λ k d short. c.places.invariant k d (omega (arith, short, c.places-test.false))), λ pairs. refl)
