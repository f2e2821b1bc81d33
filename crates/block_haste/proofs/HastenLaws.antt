-- Fair marks keep a partition coarse.
use Rattle.std.proofs.lemmas.List.{take_all, drop_all, append-nil}
use Rattle.std.proofs.Common.{◌≡◌, ℕ, ◌<◌, Option, List, [], ◌++◌, take, drop, length, Contains, sym, ap, ◌∙◌, arith}
use Rattle.block_rounds.specs.Partitions.{Enters, IsBisimulation, IsCoarse}
use Rattle.block_rounds.specs.Given.{StayTogether}
use Rattle.block_haste.specs.inside.Hastening.{IsFromBoth, AreEnteredAlikeFromBoth, AreFair, AreRenamed}

module _ (rows : List (List (ℕ × ℕ))) (kinds tags numbers : List ℕ) where
  both_kept : (pairs : List (ℕ × ℕ)) → IsCoarse rows kinds tags → IsCoarse rows kinds numbers → IsBisimulation rows kinds pairs
      → (x y : ℕ) → Contains pairs (x, y) → (label tag number : ℕ) → IsFromBoth rows tags numbers x label tag number → IsFromBoth rows tags numbers y label tag number
  both_kept pairs older newer bisimulation x y held label tag number at =
      let step = bisimulation.entered x y at.0 label held at.1 in
      (step.0, step.1, sym (older pairs bisimulation at.0 step.0 step.2) ∙ at.2, sym (newer pairs bisimulation at.0 step.0 step.2) ∙ at.3)

  -- fair marks part no nodes that a bisimulation pairs
  pub IsCoarse-fair : (marks : List (Option ℕ)) (next : List ℕ) → length numbers ≡ length rows → IsCoarse rows kinds tags → IsCoarse rows kinds numbers
      → AreFair rows tags numbers marks → StayTogether numbers marks next → IsCoarse rows kinds next
  IsCoarse-fair marks next every older newer fair together pairs bisimulation x y held =
      let live = bisimulation.live x y held in
      let same = newer pairs bisimulation x y held in
      together x y (omega (arith, every, live.0)) (omega (arith, every, live.1)) same
      (fair x y live.0 live.1 same (λ label tag number. (
        both_kept pairs older newer bisimulation x y held label tag number,
        both_kept pairs older newer bisimulation y x (bisimulation.symmetric x y held) label tag number,
      )))

  -- other names part no nodes
  pub IsCoarse-renamed : (next : List ℕ) → length numbers ≡ length rows → IsCoarse rows kinds numbers → AreRenamed numbers next → IsCoarse rows kinds next
  IsCoarse-renamed next every coarse renamed pairs bisimulation x y held =
      let live = bisimulation.live x y held in
      renamed x y (omega (arith, every, live.0)) (omega (arith, every, live.1)) (coarse pairs bisimulation x y held)

-- a whole slice that is written stands in place of the list
pub written_back : (new old : List ℕ) (count : ℕ) → length new ≡ length old → count ≡ length old → take count (new ++ drop (length new) old) ≡ new
written_back new old count same all =
    let none : drop (length new) old ≡ [] = drop_all (length new) old (omega (arith, same)) in
    ap (λ (l : List ℕ). take count (new ++ l)) none ∙ ap (take count) (append-nil new) ∙ take_all count new (omega (arith, same, all))
