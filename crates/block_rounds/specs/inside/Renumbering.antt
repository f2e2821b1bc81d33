-- The marks of nodes that differ from the heads of their blocks, and the numbers given by them.
use Rattle.std.specs.Prelude.{◌≡◌, ◌⊎◌, ◌&&◌, ℕ, ◌+◌, ◌*◌, ◌%◌, ◌^◌, ◌<◌, ◌≤◌, cond, nat_eq, List, []}
use Rattle.std.specs.Prelude.{◌∷◌, ◌++◌, length, slice_index, slice_index_or, fold, Option, None, Some, All}
use Rattle.std.specs.Cmp.Lexicographic.{pointwise}
use Rattle.block_rounds.specs.Given.{pair_eq, IsGiven}

-- one step of a hash: a linear congruence (Knuth, The Art of Computer Programming, volume 2, section 3.3.4)
abbrev pub hash_step : ℕ → ℕ → ℕ
hash_step hash number = (hash * 6_364_136_223_846_793_005 % 2 ^ 64 + number) % 2 ^ 64

-- the hash of a kind and a signature
unfoldable pub hash_of : ℕ → List (ℕ × ℕ) → ℕ
hash_of kind signature =
    fold (λ hash entry. hash_step (hash_step hash entry.0) entry.1) ((kind + 1) % 2 ^ 64) signature

-- what parts a node of this kind and signature from the head of its block: nothing where they are the same
abbrev pub mark_from : ℕ → List (ℕ × ℕ) → ℕ → List (ℕ × ℕ) → Option ℕ
mark_from kind signature head_kind head_signature =
    cond (nat_eq kind head_kind && pointwise pair_eq signature head_signature)
    None (Some (hash_of kind signature))

-- what parts a node from the head of its block
abbrev pub mark_of : List ℕ → List (List (ℕ × ℕ)) → List ℕ → List ℕ → ℕ → Option ℕ
mark_of kinds signatures numbers heads node =
    let head : ℕ = slice_index heads (slice_index numbers node) in
    mark_from (slice_index kinds node) (slice_index_or signatures node [])
    (slice_index kinds head) (slice_index_or signatures head [])

-- what parts the nodes below a count from the heads of their blocks
pub record AreMarksBelow (count : ℕ) (kinds : List ℕ) (signatures : List (List (ℕ × ℕ)))
    (numbers heads : List ℕ) (marks : List (Option ℕ)) : Type 0 where
  pub every : length marks ≡ count
  pub exact : (node : ℕ) → node < count
      → slice_index_or marks node None ≡ mark_of kinds signatures numbers heads node

abbrev pub AreMarks : List ℕ → List (List (ℕ × ℕ)) → List ℕ → List ℕ → List (Option ℕ) → Type 0
AreMarks kinds signatures numbers heads marks =
    AreMarksBelow (length numbers) kinds signatures numbers heads marks

-- no node has a mark
abbrev pub AreUnmarked : List (Option ℕ) → Type 0
AreUnmarked marks = (node : ℕ) → node < length marks → slice_index_or marks node None ≡ None

-- New numbers, by old number and mark.

-- the numbers given are of new blocks
abbrev pub AreFresh : ℕ → ℕ → (ℕ × ℕ → Option ℕ) → Type 0
AreFresh base count fresh =
    (key : ℕ × ℕ) (given : ℕ) → fresh key ≡ Some given → (base ≤ given) × (given < count)

-- the node stands behind what was there, or nothing does
abbrev pub GrowsBy : ℕ → List ℕ → List ℕ → Type 0
GrowsBy node old new = (new ≡ old) ⊎ (new ≡ old ++ node ∷ [])

-- what is given are numbers of new blocks; the number given to this node is one of them, or its own where it
-- has no mark
pub record IsNumberedBy (base number : ℕ) (mark : Option ℕ) (count : ℕ) (fresh : ℕ × ℕ → Option ℕ) (given : ℕ)
    : Type 0 where
  pub news : AreFresh base count fresh
  pub either : (mark ≡ None) × (given ≡ number) ⊎ (base ≤ given) × (given < count)

-- the nodes below a count have their numbers, given by their old ones and marks
pub record AreGivenBelow (count : ℕ) (numbers : List ℕ) (marks : List (Option ℕ)) (heads : List ℕ)
    (fresh : ℕ × ℕ → Option ℕ) (after next : List ℕ) : Type 0 where
  pub every : length next ≡ count
  pub given : (node : ℕ) → node < count
      → IsGiven fresh (slice_index numbers node) (slice_index_or marks node None) (slice_index next node)
  pub numbered : All (λ number. number < length after) next
  pub headed : All (λ head. head < length numbers) after
  pub news : AreFresh (length heads) (length after) fresh
  pub grown : length heads ≤ length after
  pub still : length after ≤ length heads → (node : ℕ) → node < count → slice_index_or marks node None ≡ None
