-- An entry of a row whose labels ascend, found by its label.
use Rattle.std.proofs.Common.{◌≡◌, ◌≢◌, ℕ, ◌<◌, ◌≤◌, ltb, true, false, inl, inr, List, length, get_or, Some, None}
use Rattle.std.proofs.Common.{AllPairs, Contains, sym, ap, ◌∙◌, subst, arith}
use Rattle.std.specs.List.{slice_get, AllWithin}
use Rattle.std.specs.List.Sorted.{IsNonDecreasingBy}
use Rattle.std.proofs.lemmas.Bool.{cases_lt}
use Rattle.std.proofs.lemmas.Bool.Decides.{nat_tests}
use Rattle.std.proofs.lemmas.Option.{slice_get_within, slice_get-get_or, get_or_from_slice_get}
use Rattle.list_laws.proofs.PlaceLaws.{Contains-from_place}
use Rattle.set_steps.specs.Types.{Label}

pub labels-rise : {T : Type 0} (row : List (Label × T)) → AllPairs (λ a b. a.0.0 < b.0.0) row
    → IsNonDecreasingBy (λ e. e.0.0) row
labels-rise row ascend i j d le lt = elim (cases_lt i j) [
  | inl before ↦ omega (arith, ascend i j d before lt)
  | inr ge ↦ let same : i ≡ j = omega arith in omega (arith, ap (λ k. (get_or row k d).0.0) same)
]

pub edge-there : {T : Type 0} (row : List (Label × T)) (place : ℕ) (edge : Label × T) (label : Label)
    → slice_get row place ≡ Some edge → edge.0.0 ≡ label.0 → Contains row (label, edge.1)
edge-there row place edge label at same =
    let is : edge.0 ≡ label = ap (λ (n : ℕ). record { 0 = n }) same in
    subst (λ (l : Label). Contains row (l, edge.1)) is (Contains-from_place row place edge at)

module _ {T : Type 0} (row : List (Label × T)) (label : Label) (place : ℕ)
    (ascend : AllPairs (λ (a b : Label × T). a.0.0 < b.0.0) row)
    (low : AllWithin (λ e. ltb e.0.0 label.0 ≡ true) row 0 place)
    (high : AllWithin (λ e. ltb e.0.0 label.0 ≡ false) row place (length row)) where
  not-before : (next : T) (there : Contains row (label, next)) → there.0 < place → ⊥
  not-before next there before =
      let less : ltb (get_or row there.0 (label, next)).0.0 label.0 ≡ true =
      low there.0 (label, next) (omega arith) before in
      let same : (get_or row there.0 (label, next)).0.0 ≡ label.0 = ap (λ (e : Label × T). e.0.0) there.2 in
      grind (arith, nat_tests)

  pub edge-past : slice_get row place ≡ None → (next : T) → Contains row (label, next) → ⊥
  edge-past none next there = elim (cases_lt there.0 place) [
    | inl before ↦ not-before next there before
    | inr behind ↦ (
        let some : Some (get_or row place (label, next)) ≡ None =
        sym (slice_get-get_or row place (label, next) (omega (arith, behind, there.1))) ∙ none in
        cc)
  ]

  pub edge-apart : (edge : Label × T) → slice_get row place ≡ Some edge → edge.0.0 ≢ label.0 → (next : T)
      → Contains row (label, next) → ⊥
  edge-apart edge at apart next there = elim (cases_lt there.0 place) [
    | inl before ↦ not-before next there before
    | inr behind ↦ (
        let read : get_or row place (label, next) ≡ edge = get_or_from_slice_get row place edge (label, next) at in
        let number : (get_or row place (label, next)).0.0 ≡ edge.0.0 = ap (λ (e : Label × T). e.0.0) read in
        let here : (get_or row there.0 (label, next)).0.0 ≡ label.0 = ap (λ (e : Label × T). e.0.0) there.2 in
        elim (cases_lt place there.0) [
          | inl later ↦ (
              let up : ltb (get_or row place (label, next)).0.0 label.0 ≡ false =
              high place (label, next) (omega arith) (slice_get_within row place edge at) in
              let rises : (get_or row place (label, next)).0.0 < (get_or row there.0 (label, next)).0.0 =
              ascend place there.0 (label, next) later there.1 in
              let least : label.0 ≤ (get_or row place (label, next)).0.0 = grind (arith, nat_tests) in
              omega (arith, rises, here, least))
          | inr equal ↦ (
              let same : place ≡ there.0 = omega (arith, behind, equal) in
              apart (sym number ∙ ap (λ k. (get_or row k (label, next)).0.0) same ∙ here))
        ])
  ]
