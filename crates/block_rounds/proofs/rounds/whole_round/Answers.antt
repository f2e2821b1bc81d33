use Rattle.std.proofs.Common.{ℕ, List, Option, subst}
use Rattle.block_rounds.specs.Partitions.{IsNumbered}
use Rattle.block_rounds.specs.Given.{StayTogether}
use Rattle.block_rounds.specs.inside.Renumbering.{AreUnmarked}
use Rattle.block_rounds.proofs.RefineLaws.{IsCoarse-round, AreBlocks-unmarked, AreMarks-of}
use Rattle.block_rounds.proofs.rounds.whole_round.Goals as goal

pub returns-clause-refining : goal.returns-clause-refining
returns-clause-refining c =
    let numbers = c.args.numbers.now in
    let heads = c.args.heads.now.items in
    let signatures = c.in_ok-signed.signed.items in
    let marks = c.in_ok-marked.marked.items in
    let marked =
    AreMarks-of c.args.kinds.now c.as_slice.result.now signatures numbers c.as_slice-2.result.now heads marks
    c.as_slice.ensures.value c.as_slice-2.ensures.value c.in_ok-marked.ensures in
    let together =
    subst (λ (m : List (Option ℕ)). StayTogether numbers m c.in_ok-next.next.items) c.as_slice-3.ensures.value
    c.in_ok-next.ensures.together in
    record {
      numbered = subst (λ (n : ℕ). IsNumbered n c.in_ok-next.next.items c.renumbered.new.heads.items)
          c.requires.refining.numbered.every c.in_ok-next.ensures.numbered;
      coarse = IsCoarse-round c.args.rows.now c.args.kinds.now numbers heads signatures marks
          c.in_ok-next.next.items c.requires.refining c.in_ok-signed.ensures marked together;
    }

pub returns-clause-settled : goal.returns-clause-settled
returns-clause-settled c few =
    let numbers = c.args.numbers.now in
    let heads = c.args.heads.now.items in
    let signatures = c.in_ok-signed.signed.items in
    let marks = c.in_ok-marked.marked.items in
    let marked =
    AreMarks-of c.args.kinds.now c.as_slice.result.now signatures numbers c.as_slice-2.result.now heads marks
    c.as_slice.ensures.value c.as_slice-2.ensures.value c.in_ok-marked.ensures in
    let unmarked : AreUnmarked marks =
    subst (λ (m : List (Option ℕ)). AreUnmarked m) c.as_slice-3.ensures.value (c.in_ok-next.ensures.still few) in
    AreBlocks-unmarked c.args.rows.now c.args.kinds.now numbers heads signatures marks c.requires.within
    c.requires.refining c.in_ok-signed.ensures marked unmarked
