-- Before the first hastening round.
use Rattle.std.proofs.Common.{◌≡◌, ◌↔◌, ℕ, ◌+◌, ◌<◌, inl, inr, None, Option, List, [], ◌∷◌, ◌++◌, length, get_or, replicate, All, Contains, refl, sym, ap, ◌∙◌, subst, arith}
use Rattle.std.specs.Prelude.{slice_index, slice_index_or}
use Rattle.std.proofs.lemmas.Bool.{cases_lt}
use Rattle.std.proofs.lemmas.List.{get_or-replicate, get_or_past, length-replicate}
use Rattle.std.proofs.lemmas.List.Elements.{All-push, Contains-append_left, Contains-push, Contains-push_cases}
use Rattle.lore_lists.proofs.MemberLaws.{Contains-none}
use Rattle.list_laws.proofs.MemberLaws.{All-from_members}
use Rattle.block_rounds.specs.Gathered.{AreGathered}
use Rattle.block_rounds.proofs.GatherLaws.{gathered_members}
use Rattle.block_rounds.specs.Partitions.{Rows, IsCoarse, IsNumbered}
use Rattle.block_haste.specs.inside.Tallies.{Key}
use Rattle.block_haste.specs.inside.Marking.{keys_of}
use Rattle.block_haste.specs.inside.Hastening.{AreInLists, HaveNoMarks, IsHastening}
use Rattle.block_haste.specs.inside.Listed.{AreNumbersBelow}
use Rattle.block_rounds.proofs.RefineLaws.{IsCoarse-one}

-- ---- all numbers below a count
pub below_more : (count : ℕ) (old new : List ℕ) → new ≡ old ++ count ∷ [] → ((node : ℕ) → node < count → Contains old node)
    → (node : ℕ) → node < count + 1 → Contains new node
below_more count old new pushes before node below = subst (λ (l : List ℕ). Contains l node) (sym pushes) (elim (cases_lt node count) [
  | inl earlier ↦ Contains-append_left old (count ∷ []) node (before node earlier)
  | inr late ↦
      let here : count ≡ node = omega (arith, late, below) in
      subst (λ (k : ℕ). Contains (old ++ count ∷ []) k) here (Contains-push old count)
])

-- ---- nodes with their numbers
pub numbers_none : (numbers : List ℕ) → AreNumbersBelow 0 numbers []
numbers_none numbers number node = (λ at. absurd (Contains-none (number, node) at), λ own. absurd (omega (arith, own.0)))

pub numbers_more : (numbers : List ℕ) (count own : ℕ) (old new : List (ℕ × ℕ)) → own ≡ slice_index numbers count
    → new ≡ old ++ (own, count) ∷ [] → AreNumbersBelow count numbers old → AreNumbersBelow (count + 1) numbers new
numbers_more numbers count own old new is pushes before number node = (
  λ at. elim (Contains-push_cases old (own, count) (number, node) (subst (λ (l : List (ℕ × ℕ)). Contains l (number, node)) pushes at)) [
    | inl earlier ↦ (let told = (before number node).0 earlier in (omega (arith, told.0), told.1))
    | inr last ↦
        let here : count ≡ node = ap (λ (p : ℕ × ℕ). p.1) last in
        (omega (arith, here), ap (slice_index numbers) (sym here) ∙ sym is ∙ ap (λ (p : ℕ × ℕ). p.0) last)
  ],
  λ told. subst (λ (l : List (ℕ × ℕ)). Contains l (number, node)) (sym pushes) (elim (cases_lt node count) [
    | inl earlier ↦ Contains-append_left old ((own, count) ∷ []) (number, node) ((before number node).1 (earlier, told.1))
    | inr late ↦
        let here : count ≡ node = omega (arith, late, told.0) in
        let by : own ≡ number = is ∙ ap (slice_index numbers) here ∙ told.1 in
        let same : (own, count) ≡ (number, node) = λ i. (by i, here i) in
        subst (λ (p : ℕ × ℕ). Contains (old ++ (own, count) ∷ []) p) same (Contains-push old (own, count))
  ]),
)

-- ---- the beginning
pub no_marks : (count : ℕ) (marks : List (Option ℕ)) → marks ≡ replicate count None → HaveNoMarks marks
no_marks count marks are node = ap (λ (l : List (Option ℕ)). get_or l node None) are ∙ (elim (cases_lt node count) [
  | inl within ↦ get_or-replicate count node None None within
  | inr beyond ↦ get_or_past (replicate count None) node None (omega (arith, beyond, length-replicate {A = Option ℕ} count None))
])

pub numbers_low : (numbers heads : List ℕ) (count : ℕ) (pairs : List (ℕ × ℕ)) → IsNumbered count numbers heads
    → AreNumbersBelow (length numbers) numbers pairs → All (λ pair. pair.0 < length heads) pairs
numbers_low numbers heads count pairs numbered are = All-from_members (λ pair. pair.0 < length heads) pairs (λ pair at.
    let told = (are pair.0 pair.1).0 at in
    let low : slice_index numbers pair.1 < length heads = numbered.numbered pair.1 0 told.0 in
    omega (arith, low, told.1))

pub IsHastening-begun : (rows : Rows) (kinds : List ℕ) (edges : List (ℕ × ℕ × ℕ)) (tags numbers heads : List ℕ) (tally : List Key)
    (pairs : List (ℕ × ℕ)) (lists : List (List ℕ)) (changed : List ℕ) (marks : List (Option ℕ))
    → IsCoarse rows kinds numbers → IsNumbered (length rows) numbers heads → tags ≡ replicate (length numbers) 0
    → tally ≡ keys_of edges tags → AreNumbersBelow (length numbers) numbers pairs → AreGathered pairs lists
    → ((node : ℕ) → node < length numbers → Contains changed node) → All (λ node. node < length numbers) changed
    → marks ≡ replicate (length numbers) None
    → IsHastening rows kinds edges tags numbers tally lists changed marks
IsHastening-begun rows kinds edges tags numbers heads tally pairs lists changed marks coarse numbered are_tags counted paired gathered all within are_marks = record {
  coarse = coarse;
  older = IsCoarse-one rows kinds tags (length numbers) are_tags;
  counted = counted;
  listed = λ node live. (gathered_members pairs lists gathered (slice_index numbers node) node).1 ((paired (slice_index numbers node) node).1 (live, refl));
  changes = λ node live. inr (all node live);
  every = numbered.every;
  tagged = ap length are_tags ∙ length-replicate (length numbers) 0 ∙ numbered.every;
  marked = ap length are_marks ∙ length-replicate {A = Option ℕ} (length numbers) None ∙ numbered.every;
  unmarked = no_marks (length numbers) marks are_marks;
  within = subst (λ (n : ℕ). All (λ node. node < n) changed) numbered.every within;
}
