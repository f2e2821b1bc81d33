use Rattle.std.proofs.Common.{List, length, ℕ, subst}
use Rattle.block_rounds.specs.Partitions.{AreSameBlocks, IsNumbered}
use Rattle.block_rounds.proofs.RefineLaws.{IsCoarse-one}
use Rattle.block_rounds.proofs.LevelLaws.{AreBlocks-same}
use Rattle.block_haste.proofs.refining.refined.Goals as goal

pub first_round-requires-clause-refining : goal.first_round-requires-clause-refining
first_round-requires-clause-refining c = record {
  numbered = c.in_ok-whole.ensures.numbered;
  coarse = IsCoarse-one c.args.rows.now c.args.kinds.now c.in_ok-whole.whole.numbers.items (length c.args.rows.now)
      c.in_ok-whole.ensures.numbers;
}

pub returns-clause-blocks : goal.returns-clause-blocks
returns-clause-blocks c =
    let numbers = c.in_ok-numbers.numbers.items in
    let next = c.in_ok-partition.partition.numbers.items in
    AreBlocks-same c.args.rows.now c.args.kinds.now numbers next c.in_ok-numbers.ensures.every
    (subst (λ (n : List ℕ). AreSameBlocks n next) c.as_slice.ensures.value c.in_ok-partition.ensures.same)
    c.in_ok-numbers.ensures.blocks

pub returns-clause-numbered : goal.returns-clause-numbered
returns-clause-numbered c =
    subst (λ (n : ℕ). IsNumbered n c.in_ok-partition.partition.numbers.items c.in_ok-partition.partition.heads.items)
    c.in_ok-numbers.ensures.every
    (subst (λ (l : List ℕ). IsNumbered (length l) c.in_ok-partition.partition.numbers.items c.in_ok-partition.partition.heads.items)
    c.as_slice.ensures.value c.in_ok-partition.ensures.numbered)
