-- Numbers given to parts of blocks, one after another.
use Rattle.std.proofs.Common.{◌≡◌, ℕ, ◌+◌, ◌<◌, ◌≤◌, inl, inr, true, false, cond, Option, None, Some, List, [], ◌∷◌, ◌++◌, length, get_or, All, refl, sym, ap, ◌∙◌, subst, arith, length-append}
use Rattle.std.specs.Prelude.{slice_index, slice_index_or}
use Rattle.std.proofs.lemmas.Bool.{cases_lt}
use Rattle.std.proofs.lemmas.List.{get_or_append_left, get_or_push}
use Rattle.std.proofs.lemmas.Option.{none-some, same_Some}
use Rattle.std.proofs.lemmas.List.Elements.{All-push, All-weaker}
use Rattle.block_rounds.specs.Given.{pair_eq, IsGiven, Keeps, StayTogether}
use Rattle.block_rounds.specs.inside.Renumbering.{AreFresh, GrowsBy, IsNumberedBy, AreGivenBelow}
use Rattle.block_rounds.proofs.SignatureLaws.{same_pair}

abbrev pub Updated : (ℕ × ℕ → Option ℕ) → (ℕ × ℕ → Option ℕ) → ℕ × ℕ → ℕ → Type 0
Updated old new key value = (at : ℕ × ℕ) → new at ≡ cond (pair_eq key at) (Some value) (old at)

module _ (old new : ℕ × ℕ → Option ℕ) (key : ℕ × ℕ) (value : ℕ) (updated : Updated old new key value) where
  pub Keeps-updated : old key ≡ None → Keeps old new
  Keeps-updated absent at given was = elim (pair_eq key at) as (λ b. pair_eq key at ≡ b → new at ≡ Some given) [
    | true ↦ λ here. absurd (none-some given (sym absent ∙ ap old (same_pair key at here) ∙ was))
    | false ↦ λ other. updated at ∙ ap (λ b. cond b (Some value) (old at)) other ∙ was
  ] refl

  pub AreFresh-updated : (base : ℕ) → base ≤ value → AreFresh base value old → AreFresh base (value + 1) new
  AreFresh-updated base below fresh at given is = elim (pair_eq key at) as (λ b. pair_eq key at ≡ b → (base ≤ given) × (given < value + 1)) [
    | true ↦ λ here.
        let now : Some value ≡ Some given = ap (λ b. cond b (Some value) (old at)) (sym here) ∙ sym (updated at) ∙ is in
        let one : value ≡ given = same_Some value given now in
        (omega arith, omega arith)
    | false ↦ λ other.
        let before : old at ≡ Some given = ap (λ b. cond b (Some value) (old at)) (sym other) ∙ sym (updated at) ∙ is in
        let bounds = fresh at given before in
        (omega (arith, bounds.0), omega (arith, bounds.1))
  ] refl

-- what was given stays given
pub IsGiven-kept : (old new : ℕ × ℕ → Option ℕ) (number : ℕ) (mark : Option ℕ) (given : ℕ) → Keeps old new → IsGiven old number mark given → IsGiven new number mark given
IsGiven-kept old new number None given keeps is = is
IsGiven-kept old new number (Some mark) given keeps is = keeps (number, mark) given is

-- one number and mark are given one number
pub IsGiven-one : (fresh : ℕ × ℕ → Option ℕ) (number : ℕ) (mark : Option ℕ) (a b : ℕ) → IsGiven fresh number mark a → IsGiven fresh number mark b → a ≡ b
IsGiven-one fresh number None a b first second = sym first ∙ second
IsGiven-one fresh number (Some mark) a b first second = same_Some a b (sym first ∙ second)

module _ (numbers : List ℕ) (marks : List (Option ℕ)) (heads : List ℕ) where
  -- the next node gets its number
  pub AreGivenBelow-more : (count number : ℕ) (mark : Option ℕ) (old new : ℕ × ℕ → Option ℕ) (before after next pushed : List ℕ) (given : ℕ)
      → count < length numbers → number ≡ slice_index numbers count → mark ≡ slice_index_or marks count None → number < length before
      → AreGivenBelow count numbers marks heads old before next → Keeps old new → GrowsBy count before after
      → ((base : ℕ) → base ≤ length before → AreFresh base (length before) old → IsNumberedBy base number mark (length after) new given)
      → IsGiven new number mark given → pushed ≡ next ++ given ∷ []
      → AreGivenBelow (count + 1) numbers marks heads new after pushed
  AreGivenBelow-more count number mark old new before after next pushed given within number_is mark_is low so_far keeps grows told is pushes =
      let numbered = told (length heads) so_far.grown so_far.news in
      let longer : length before ≤ length after = elim grows [
        | inl same ↦ omega (arith, ap length same)
        | inr more ↦ omega (arith, ap length more, length-append before (count ∷ []))
      ] in
      let own : given < length after = elim numbered.either [
        | inl kept ↦ omega (arith, kept.1, low, longer)
        | inr fresh ↦ fresh.1
      ] in
      let total : length pushed ≡ length next + 1 = omega (arith, ap length pushes, length-append next (given ∷ [])) in
      record {
        every = omega (arith, total, so_far.every);
        given = λ node below. elim (cases_lt node count) [
          | inl earlier ↦
              let read : get_or pushed node 0 ≡ get_or next node 0 =
              ap (λ (l : List ℕ). get_or l node 0) pushes ∙ get_or_append_left next (given ∷ []) 0 node (omega (arith, earlier, so_far.every)) in
              subst (λ (v : ℕ). IsGiven new (slice_index numbers node) (slice_index_or marks node None) v) (sym read)
              (IsGiven-kept old new (slice_index numbers node) (slice_index_or marks node None) (slice_index next node) keeps (so_far.given node earlier))
          | inr late ↦
              let here : count ≡ node = omega (arith, late, below) in
              let read : get_or pushed node 0 ≡ given = ap (λ (l : List ℕ). get_or l node 0) pushes ∙ get_or_push next given 0 node (omega (arith, here, so_far.every)) in
              subst (λ (v : ℕ). IsGiven new (slice_index numbers node) (slice_index_or marks node None) v) (sym read)
              (subst (λ (k : ℕ). IsGiven new (slice_index numbers k) (slice_index_or marks k None) given) here
              (subst (λ (m : Option ℕ). IsGiven new (slice_index numbers count) m given) mark_is
              (subst (λ (n : ℕ). IsGiven new n mark given) number_is is)))
        ];
        numbered = subst (λ (l : List ℕ). All (λ v. v < length after) l) (sym pushes)
            (All-push (λ v. v < length after) next given
            (All-weaker (λ v. v < length before) (λ v. v < length after) (λ v low. omega (arith, low, longer)) next so_far.numbered) own);
        headed = elim grows [
          | inl same ↦ subst (λ (l : List ℕ). All (λ v. v < length numbers) l) (sym same) so_far.headed
          | inr more ↦ subst (λ (l : List ℕ). All (λ v. v < length numbers) l) (sym more) (All-push (λ v. v < length numbers) before count so_far.headed within)
        ];
        news = numbered.news;
        grown = omega (arith, longer, so_far.grown);
        still = λ few node below. elim (cases_lt node count) [
          | inl earlier ↦ so_far.still (omega (arith, few, longer)) node earlier
          | inr late ↦
              let here : count ≡ node = omega (arith, late, below) in
              elim numbered.either [
                | inl kept ↦ ap (λ (k : ℕ). slice_index_or marks k None) (sym here) ∙ sym mark_is ∙ kept.0
                | inr fresh ↦ absurd (omega (arith, few, fresh.0, fresh.1))
              ]
        ];
      }

  -- nodes of one block with one mark get one number
  pub StayTogether-given : (fresh : ℕ × ℕ → Option ℕ) (after next : List ℕ) → AreGivenBelow (length numbers) numbers marks heads fresh after next
      → StayTogether numbers marks next
  StayTogether-given fresh after next all x y x_live y_live same one_mark =
      let first = all.given x x_live in
      let second = all.given y y_live in
      let moved : IsGiven fresh (slice_index numbers x) (slice_index_or marks x None) (slice_index next y) =
      subst (λ (n : ℕ). IsGiven fresh n (slice_index_or marks x None) (slice_index next y)) (sym same)
      (subst (λ (m : Option ℕ). IsGiven fresh (slice_index numbers y) m (slice_index next y)) (sym one_mark) second) in
      IsGiven-one fresh (slice_index numbers x) (slice_index_or marks x None) (slice_index next x) (slice_index next y) first moved
