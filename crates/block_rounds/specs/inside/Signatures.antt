-- Signatures: from which blocks a node is entered, and by which labels.
use Rattle.std.specs.Prelude.{◌≡◌, ◌↔◌, ℕ, List, slice_index, AllPairs, Contains}
use Rattle.std.specs.List.{AllZip}
use Rattle.std.specs.Ordering.{nat_cmp, ordering_then}
use Rattle.std.specs.declared.cmp.Ordering.{Ordering}
use Rattle.std.specs.declared.cmp.Ordering.TheVariants.{Less}
use Rattle.block_rounds.specs.Partitions.{Rows}

-- pairs of numbers in order
abbrev pub pair_cmp : ℕ × ℕ → ℕ × ℕ → Ordering
pair_cmp a b = ordering_then (nat_cmp a.0 b.0) (nat_cmp a.1 b.1)

-- the labels of a row's entries with the numbers of their parents' blocks, in order, each once
pub record IsSignature (row : List (ℕ × ℕ)) (numbers : List ℕ) (signature : List (ℕ × ℕ)) : Type 0 where
  pub ascending : AllPairs (λ a b. pair_cmp a b ≡ Less) signature
  pub exact : (from : ℕ × ℕ) → Contains signature from
      ↔ ((parent : ℕ) × Contains row (from.0, parent) × (slice_index numbers parent ≡ from.1))

abbrev pub AreSignatures : Rows → List ℕ → List (List (ℕ × ℕ)) → Type 0
AreSignatures rows numbers signed = AllZip (λ row signature. IsSignature row numbers signature) rows signed
