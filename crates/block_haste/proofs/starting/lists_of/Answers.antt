use Rattle.std.proofs.Common.{◌≡◌, ◌<◌, ℕ, List, length, All, sym, subst, arith}
use Rattle.std.proofs.lemmas.Result.{IfOk-weaker}
use Rattle.block_rounds.specs.Gathered.{AreGathered}
use Rattle.block_haste.specs.inside.Listed.{AreNumbersBelow, AreOfBlocks}
use Rattle.block_haste.proofs.StartLaws.{numbers_low}
use Rattle.block_haste.proofs.starting.lists_of.Goals as goal

pub gathered-lists-requires : goal.gathered-lists-requires
gathered-lists-requires c =
    let numbers = c.args.first.now.numbers.items in
    let heads = c.args.first.now.heads.items in
    let pairs = c.in_ok-pairs.pairs.items in
    let are = subst (λ (l : List ℕ). AreNumbersBelow (length l) l pairs) c.as_slice.ensures.value c.in_ok-pairs.ensures in
    let count : length heads ≡ c.len.result = omega (arith, c.len.ensures, c.args.first.now.heads.ok.0) in
    subst (λ (l : List (ℕ × ℕ)). All (λ pair. pair.0 < c.len.result) l) (sym c.as_slice-2.ensures.value)
    (subst (λ (n : ℕ). All (λ pair. pair.0 < n) pairs) count (numbers_low numbers heads (length numbers) pairs c.requires are))

pub returns : goal.returns
returns c =
    let numbers = c.args.first.now.numbers.items in
    let pairs = c.in_ok-pairs.pairs.items in
    let are = subst (λ (l : List ℕ). AreNumbersBelow (length l) l pairs) c.as_slice.ensures.value c.in_ok-pairs.ensures in
    IfOk-weaker c.gathered-lists.result (λ lists. AreGathered c.as_slice-2.result.now lists.items) (λ lists. AreOfBlocks numbers lists.items)
    (λ lists gathered. (pairs, are, subst (λ (l : List (ℕ × ℕ)). AreGathered l lists.items) c.as_slice-2.ensures.value gathered))
    c.gathered-lists.ensures.items
