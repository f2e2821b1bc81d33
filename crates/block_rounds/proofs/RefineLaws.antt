-- Rounds of a refinement: its start, a step, and its end.
use Rattle.std.proofs.Common.{◌≡◌, ℕ, ◌<◌, true, false, cond, ◌&&◌, nat_eq, Option, None, Some, List, [], ◌∷◌, length, get_or, replicate, inl, inr, refl, sym, ap, ◌∙◌, subst, arith}
use Rattle.std.specs.Prelude.{slice_index, slice_index_or}
use Rattle.std.specs.Cmp.Lexicographic.{pointwise}
use Rattle.std.proofs.lemmas.Option.{none-some}
use Rattle.std.proofs.lemmas.Bool.{true≢false, cases_lt}
use Rattle.std.proofs.lemmas.List.{get_or-replicate, get_or_past, length-replicate}
use Rattle.block_rounds.specs.Partitions.{Rows, AreWithin, IsCoarse, IsStable, AreBlocks, IsRefining}
use Rattle.block_rounds.specs.inside.Signatures.{AreSignatures}
use Rattle.block_rounds.specs.Given.{pair_eq, StayTogether}
use Rattle.block_rounds.specs.inside.Renumbering.{hash_of, mark_from, AreMarks, AreUnmarked}
use Rattle.block_rounds.proofs.SignatureLaws.{same_pair, same_number, left, right, alike_from_signatures, signatures_from_alike}
use Rattle.block_rounds.proofs.BlockLaws.{IsCoarse-step, AreBlocks-exact}

-- texts of pairs that the test takes for equal are one
same_pairs : (xs ys : List (ℕ × ℕ)) → pointwise pair_eq xs ys ≡ true → xs ≡ ys
same_pairs [] [] same = refl
same_pairs [] (y ∷ ys) same = absurd (true≢false (sym same))
same_pairs (x ∷ xs) [] same = absurd (true≢false (sym same))
same_pairs (x ∷ xs) (y ∷ ys) same =
    let first : x ≡ y = same_pair x y (left (pair_eq x y) (pointwise pair_eq xs ys) same) in
    let rest : xs ≡ ys = same_pairs xs ys (right (pair_eq x y) (pointwise pair_eq xs ys) same) in
    cc

record IsSameAs (kind : ℕ) (signature : List (ℕ × ℕ)) (head_kind : ℕ) (head_signature : List (ℕ × ℕ)) : Type 0 where
  kinds : kind ≡ head_kind
  signatures : signature ≡ head_signature

unmarked : (kind : ℕ) (signature : List (ℕ × ℕ)) (head_kind : ℕ) (head_signature : List (ℕ × ℕ))
    → mark_from kind signature head_kind head_signature ≡ None → IsSameAs kind signature head_kind head_signature
unmarked kind signature head_kind head_signature none =
    elim (nat_eq kind head_kind && pointwise pair_eq signature head_signature) as
    (λ b. (nat_eq kind head_kind && pointwise pair_eq signature head_signature) ≡ b → IsSameAs kind signature head_kind head_signature) [
      | true ↦ λ same. record {
        kinds = same_number kind head_kind (left (nat_eq kind head_kind) (pointwise pair_eq signature head_signature) same);
        signatures = same_pairs signature head_signature (right (nat_eq kind head_kind) (pointwise pair_eq signature head_signature) same);
      }
      | false ↦ λ other. absurd (none-some (hash_of kind signature) (sym none ∙ ap (λ b. cond b None (Some (hash_of kind signature))) other))
    ] refl

module _ (rows : List (List (ℕ × ℕ))) (kinds numbers heads : List ℕ) (signatures : List (List (ℕ × ℕ))) (marks : List (Option ℕ)) where
  -- a round keeps a partition coarse
  pub IsCoarse-round : (next : List ℕ) → IsRefining rows kinds numbers heads → AreSignatures rows numbers signatures → AreMarks kinds signatures numbers heads marks
      → StayTogether numbers marks next → IsCoarse rows kinds next
  IsCoarse-round next refining signed marked together =
      IsCoarse-step rows kinds numbers next refining.coarse (λ x y x_live y_live same kind alike.
      let every = refining.numbered.every in
      let x_within : x < length numbers = omega (arith, every, x_live) in
      let y_within : y < length numbers = omega (arith, every, y_live) in
      let one : get_or signatures x [] ≡ get_or signatures y [] = signatures_from_alike rows signatures numbers signed x y x_live y_live alike in
      let head_of : ℕ → ℕ = λ number. slice_index heads number in
      let mark : slice_index_or marks x None ≡ slice_index_or marks y None =
      marked.exact x x_within
      ∙ ap (λ k. mark_from k (slice_index_or signatures x []) (slice_index kinds (head_of (slice_index numbers x))) (slice_index_or signatures (head_of (slice_index numbers x)) [])) kind
      ∙ ap (λ s. mark_from (slice_index kinds y) s (slice_index kinds (head_of (slice_index numbers x))) (slice_index_or signatures (head_of (slice_index numbers x)) [])) one
      ∙ ap (λ n. mark_from (slice_index kinds y) (slice_index_or signatures y []) (slice_index kinds (head_of n)) (slice_index_or signatures (head_of n) [])) same
      ∙ sym (marked.exact y y_within) in
      together x y x_within y_within same mark)

  same_as_head : IsRefining rows kinds numbers heads → AreMarks kinds signatures numbers heads marks → AreUnmarked marks → (x : ℕ) → x < length rows
      → IsSameAs (slice_index kinds x) (slice_index_or signatures x []) (slice_index kinds (slice_index heads (slice_index numbers x)))
      (slice_index_or signatures (slice_index heads (slice_index numbers x)) [])
  same_as_head refining marked none x live =
      let within : x < length numbers = omega (arith, refining.numbered.every, live) in
      let unmarks = none x (omega (arith, within, marked.every)) in
      unmarked (slice_index kinds x) (slice_index_or signatures x []) (slice_index kinds (slice_index heads (slice_index numbers x)))
      (slice_index_or signatures (slice_index heads (slice_index numbers x)) []) (sym (marked.exact x within) ∙ unmarks)

  -- where no node has a mark the partition is stable
  pub IsStable-unmarked : IsRefining rows kinds numbers heads → AreSignatures rows numbers signatures → AreMarks kinds signatures numbers heads marks
      → AreUnmarked marks → IsStable rows kinds numbers
  IsStable-unmarked refining signed marked none = record {
    alike = λ x y x_live y_live same.
        let first = same_as_head refining marked none x x_live in
        let second = same_as_head refining marked none y y_live in
        first.kinds ∙ ap (λ n. slice_index kinds (slice_index heads n)) same ∙ sym second.kinds;
    entered = λ x y x_live y_live same.
        let first = same_as_head refining marked none x x_live in
        let second = same_as_head refining marked none y y_live in
        alike_from_signatures rows signatures numbers signed x y x_live y_live
        (first.signatures ∙ ap (λ n. slice_index_or signatures (slice_index heads n) []) same ∙ sym second.signatures);
  }

  pub AreBlocks-unmarked : AreWithin rows → IsRefining rows kinds numbers heads → AreSignatures rows numbers signatures → AreMarks kinds signatures numbers heads marks
      → AreUnmarked marks → AreBlocks rows kinds numbers
  AreBlocks-unmarked within refining signed marked none =
      AreBlocks-exact rows kinds numbers within refining.coarse (IsStable-unmarked refining signed marked none)

-- facts of slices are facts of the lists that they show
pub AreMarks-of : (kinds : List ℕ) (shown signatures : List (List (ℕ × ℕ))) (numbers shown_heads heads : List ℕ)
    (marks : List (Option ℕ)) → shown ≡ signatures → shown_heads ≡ heads
    → AreMarks kinds shown numbers shown_heads marks → AreMarks kinds signatures numbers heads marks
AreMarks-of kinds shown signatures numbers shown_heads heads marks first second are =
    subst (λ (h : List ℕ). AreMarks kinds signatures numbers h marks) second
    (subst (λ (s : List (List (ℕ × ℕ))). AreMarks kinds s numbers shown_heads marks) first are)

-- all nodes in one block
pub IsCoarse-one : (rows : Rows) (kinds numbers : List ℕ) (count : ℕ) → numbers ≡ replicate count 0
    → IsCoarse rows kinds numbers
IsCoarse-one rows kinds numbers count are pairs bisimulation x y held = zero x ∙ sym (zero y)
  where
    zero : (node : ℕ) → slice_index numbers node ≡ 0
    zero node = ap (λ (l : List ℕ). slice_index l node) are ∙ (elim (cases_lt node count) [
      | inl within ↦ get_or-replicate count node 0 0 within
      | inr beyond ↦ get_or_past (replicate count 0) node 0 (omega (arith, beyond, length-replicate {A = ℕ} count 0))
    ])
