-- Records further along a list are found without a walk.
use Rattle.std.proofs.Common.{◌≡◌, ◌⊎◌, ℕ, ◌≤◌, false, Less, Equal, Err, Some, None, Option, List, [], ◌∷◌, get_or, is_some, Contains, refl, sym, ap, ◌∙◌, inl, inr, subst, arith}
use Rattle.std.specs.List.Sorted.{IsBinarySearchResult, IsNonDecreasingBy}
use Rattle.std.specs.Ordering.{ordering_index}
use Rattle.std.proofs.lemmas.Bool.{cases_lt, true≢false}
use Rattle.std.proofs.lemmas.Bool.Decides.{nat_tests}
use Rattle.slab.specs.Slab.{Slab, slab_len}
use Rattle.slab.proofs.SlabLemmas.{Contains-cons_cases}
use Rattle.edge_lists.specs.Types.{Edge, Side, Out, EdgeRecord}
use Rattle.edge_lists.specs.Edges.{side_cmp, Precedes, Ascend}
use Rattle.edge_lists.specs.Records.{LiesAt, HasEdge}
use Rattle.edge_lists.specs.Chains.{WaitAmong}
use Rattle.edge_lists.specs.Probes.{IsLater, IsFurther}
use Rattle.edge_lists.proofs.EdgeLaws.{side_total, side_order, cmp_self}
use Rattle.edge_lists.proofs.WalkLaws.{some_same, behind, behind_place, fewer_behind, count-less, key_within}
use Rattle.edge_lists.proofs.ChangeLaws.{none_waits, lies_within}

at_most : (side : Side) (a b c : Edge) → (a ≡ b) ⊎ (side_cmp side a b ≡ Less) → (b ≡ c) ⊎ (side_cmp side b c ≡ Less) → (a ≡ c) ⊎ (side_cmp side a c ≡ Less)
at_most side a b c (inl same) two = subst (λ (x : Edge). (x ≡ c) ⊎ (side_cmp side x c ≡ Less)) (sym same) two
at_most side a b c (inr less) (inl same) = inr (subst (λ (x : Edge). side_cmp side a x ≡ Less) same less)
at_most side a b c (inr less) (inr more) = inr ((side_total side).trans a b c less more)

module _ (side : Side) (records : Slab EdgeRecord) (edge : Edge) (come : List Edge) where
  pub further_same : (key : ℕ) → IsFurther side records edge come key key
  further_same key = record {
    start = λ waiting among at. at;
    behind = λ first lies. (first, lies, inl refl);
  }

  pub further_later : (here there : ℕ) → IsLater side records edge come here there → IsFurther side records edge come here there
  further_later here there at = record {
    start = λ waiting among _. (at.later, (at.lies, λ waits. at.other (among there at.later waits at.lies at.before)), at.before);
    behind = λ first lies. (
      at.later,
      at.lies,
      inr (subst (λ (x : Edge). side_cmp side x at.later ≡ Less) (some_same (sym at.behind.1 ∙ lies)) at.behind.2.1),
    );
  }

  pub further_trans : (a b c : ℕ) → IsFurther side records edge come a b → IsFurther side records edge come b c → IsFurther side records edge come a c
  further_trans a b c one two = record {
    start = λ waiting among at. two.start waiting among (one.start waiting among at);
    behind = λ first lies.
        let mid = one.behind first lies in
        let last = two.behind mid.0 mid.1 in
        (last.0, last.1, at_most side first mid.0 last.0 mid.2 last.2);
  }

  -- no more records lie behind it
  pub further_behind : (here there : ℕ) (e : Edge) → LiesAt records here e → IsFurther side records edge come here there
      → behind_place side records (Some there) ≤ behind_place side records (Some here)
  further_behind here there e lies further =
      let next = further.behind e lies in
      let at_here : behind_place side records (Some here) ≡ behind side records (Some e) = ap (behind side records) lies in
      let at_there : behind_place side records (Some there) ≡ behind side records (Some next.0) = ap (behind side records) next.1 in
      elim next.2 [
        | inl same ↦
            let as_many : behind side records (Some e) ≡ behind side records (Some next.0) = ap (λ (x : Edge). behind side records (Some x)) same in
            omega (arith, at_here, at_there, as_many)
        | inr less ↦ omega (arith, at_here, at_there, fewer_behind side records e next.0 there next.1 less)
      ]

-- ---- what waits
pub none_among : (side : Side) (records : Slab EdgeRecord) (edge : Edge) (come : List Edge) → WaitAmong side records [] edge come
none_among side records edge come = λ key other at lies less. absurd (none_waits key at)

-- the record of the edge itself doesn't come before it
pub own_among : (side : Side) (records : Slab EdgeRecord) (key : ℕ) (edge : Edge) (come : List Edge) → LiesAt records key edge → WaitAmong side records (key ∷ []) edge come
own_among side records key edge come lies = λ k other at there less.
    let here : key ≡ k = elim (Contains-cons_cases key k [] at) [ inl same ↦ same | inr later ↦ absurd (none_waits k later) ] in
    let same : other ≡ edge = some_same (sym (subst (λ (n : ℕ). LiesAt records n other) (sym here) there) ∙ lies) in
    absurd ((side_order side).never edge (subst (λ (x : Edge). Precedes side x edge) same less))

-- ---- a binary search among ascending edges
comparison_rises : (a b x : Edge) → side_cmp Out a b ≡ Less → ordering_index (side_cmp Out a x) ≤ ordering_index (side_cmp Out b x)
comparison_rises a b x less = grind (arith, nat_tests)

comparisons_rise : (edges : List Edge) → Ascend Out edges → (x : Edge) → IsNonDecreasingBy (λ e. ordering_index (side_cmp Out e x)) edges
comparisons_rise edges ascend x i j d le lt = elim (cases_lt i j) [
  | inl before ↦ comparison_rises (get_or edges i d) (get_or edges j d) x (ascend i j d before lt)
  | inr ge ↦ let same : i ≡ j = omega arith in omega (arith, ap (λ k. ordering_index (side_cmp Out (get_or edges k d) x)) same)
]

-- where a search ends at a gap the edge does not stand there
pub none_found : (edges : List Edge) → Ascend Out edges → (edge : Edge) (place : ℕ) → IsBinarySearchResult (λ e. side_cmp Out e edge) edges (Err place) → ¬ Contains edges edge
none_found edges ascend edge place gap at =
    let parts = gap (comparisons_rise edges ascend edge) in
    let k = at.0 in
    let same : side_cmp Out (get_or edges k edge) edge ≡ Equal = ap (λ (e : Edge). side_cmp Out e edge) at.2 ∙ cmp_self Out edge in
    elim (cases_lt k place) [
      | inl before ↦ omega (arith, ap ordering_index (sym (parts.0 k edge (omega arith) before) ∙ same))
      | inr after ↦ omega (arith, ap ordering_index (sym (parts.1 k edge after at.1) ∙ same))
    ]

-- ---- a slab without records
pub none_in_empty : (records : Slab EdgeRecord) (edge : Edge) → slab_len records ≡ 0 → ¬ HasEdge records edge
none_in_empty records edge empty has =
    let some = count-less is_some (λ (slot : Option EdgeRecord). false) records.slots (λ slot no. absurd (true≢false (sym no))) has.0 None
    (key_within records has.0 edge has.1) (lies_within records has.0 edge has.1) refl in
    omega (arith, some, empty)
