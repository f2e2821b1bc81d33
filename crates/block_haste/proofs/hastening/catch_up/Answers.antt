use Rattle.std.proofs.Common.{inl, inr, arith}
use Rattle.block_haste.proofs.HasteLaws.{same_numbers}
use Rattle.block_haste.proofs.hastening.catch_up.Goals as goal

pub returns : goal.returns
returns c =
    same_numbers c.nodes.tags.items c.args.numbers.now c.nodes.invariant.every
    (λ k below. elim (c.nodes.invariant.left k below) [
      | inl same ↦ same
      | inr later ↦ absurd (omega (arith, later.1, later.2, c.nodes-test.false))
    ])
