-- Sets of facts: distinct facts that were sorted ascend, a search finds a fact among ascending ones, and what is left of facts
-- without others.
use Rattle.std.proofs.Common.{◌≡◌, ◌≢◌, ◌⊎◌, ◌↔◌, inl, inr, ℕ, ◌+◌, ◌<◌, ◌≤◌, Bool, true, false, List, [], ◌∷◌, ◌++◌, length, take, get_or, Less, Equal, Greater, Err, IsTrue, true≢false}
use Rattle.std.proofs.Common.{AllPairs, Contains, IsPermutation, refl, sym, ap, ◌∙◌, subst, arith}
use Rattle.std.specs.List.Sorted.{IsSortedBy, IsBinarySearchResult, IsNonDecreasingBy}
use Rattle.std.specs.declared.cmp.Ordering.{Ordering}
use Rattle.std.specs.Ordering.{is_eq, is_lt, eq_by_cmp, ordering_reverse, ordering_index}
use Rattle.std.specs.Cmp.{IsTotalOrder}
use Rattle.std.proofs.lemmas.Bool.{cases_lt}
use Rattle.std.proofs.lemmas.Cmp.{eq_by_cmp_equiv}
use Rattle.std.proofs.lemmas.List.{get_or_default, length_push, length-take-le, get_or-take, take_more, get_or_append_left, get_or_push}
use Rattle.std.proofs.lemmas.List.Elements.{Contains-get_or, Contains-append_left, Contains-push, Contains-push_cases}
use Rattle.std.proofs.lemmas.List.MinMax.{ranks_by}
use Rattle.std.proofs.lemmas.List.Sorted.{sorted_far}
use Rattle.std.proofs.lemmas.Map.Keys.{IsDistinct-from_apart, IsDistinct-IsPermutation, apart_from_distinct}
use Rattle.lore_base.specs.Deltas.{IsOnlyIn}
use Rattle.lore_base.proofs.MemberLaws.{Contains-none, Contains-same}
use Rattle.lore_base.proofs.ListLaws.{AllPairs-append}
use Rattle.list_laws.proofs.PairLaws.{AllPairs-nil}
use Rattle.list_laws.proofs.OrderLaws.{comparison_rises, Equal-from_test}
use Rattle.doem_facts.specs.Facts.{Ascends}

-- two of a list are one, or one comes before the other
pub pair_cases : {X : Type 0} (R : X → X → Type 0) (xs : List X) (x y : X) → AllPairs R xs → Contains xs x → Contains xs y
    → (x ≡ y) ⊎ (R x y ⊎ R y x)
pair_cases R xs x y pairs at_x at_y =
    let x_is : get_or xs at_x.0 x ≡ x = at_x.2 in
    let y_is : get_or xs at_y.0 x ≡ y = get_or_default xs at_y.0 x y at_y.1 ∙ at_y.2 in
    elim (cases_lt at_x.0 at_y.0) [
      | inl before ↦ inr (inl (rw (x_is, y_is) at (pairs at_x.0 at_y.0 x before at_y.1)))
      | inr late ↦ elim (cases_lt at_y.0 at_x.0) [
        | inl after ↦ inr (inr (rw (y_is, x_is) at (pairs at_y.0 at_x.0 x after at_x.1)))
        | inr same ↦ (let here : at_x.0 ≡ at_y.0 = omega arith in inl (sym x_is ∙ ap (λ k. get_or xs k x) here ∙ y_is))
      ]
    ]

-- Facts in order.

module _ {F : Type 0} (cmp : F → F → Ordering) (total : IsTotalOrder cmp) where
  -- ascending facts have their places in the order to themselves
  pub alone : (xs : List F) → Ascends cmp xs → (a b : F) → Contains xs a → Contains xs b → cmp a b ≡ Equal → a ≡ b
  alone xs ascend a b at_a at_b same = elim (pair_cases (λ x y. cmp x y ≡ Less) xs a b ascend at_a at_b) [
    | inl is ↦ is
    | inr either ↦ elim either [ inl less ↦ cc | inr more ↦ (let back = total.antisymm a b ∙ ap ordering_reverse more in cc) ]
  ]

  -- distinct facts that were sorted ascend, where one place in the order has one fact
  pub sorted_ascends : (old new : List F) → IsPermutation old new → IsSortedBy (λ a b. is_lt (cmp a b)) new
      → AllPairs (λ a b. a ≢ b) old → ((a b : F) → Contains old a → Contains old b → cmp a b ≡ Equal → a ≡ b) → Ascends cmp new
  sorted_ascends old new moved sorted distinct once i j d lt len =
      let test = eq_by_cmp cmp in
      let apart = IsDistinct-from_apart test old (λ p q e below within.
      elim (cmp (get_or old p e) (get_or old q e)) as (λ o. cmp (get_or old p e) (get_or old q e) ≡ o → is_eq o ≡ false) [
        | Less ↦ λ is. refl
        | Equal ↦ λ is. absurd (distinct p q e below within (once (get_or old p e) (get_or old q e) (Contains-get_or old p e (omega arith)) (Contains-get_or old q e within) is))
        | Greater ↦ λ is. refl
      ] refl) in
      let still = IsDistinct-IsPermutation test (λ x y. (eq_by_cmp_equiv total).symm x y) old new moved apart in
      let differ : is_eq (cmp (get_or new i d) (get_or new j d)) ≡ false = apart_from_distinct test new i j d still lt len in
      let far : is_lt (cmp (get_or new j d) (get_or new i d)) ≡ false = sorted_far (λ a b. is_lt (cmp a b)) (ranks_by total (λ (x : F). x)) new sorted i j d (omega arith) len in
      elim (cmp (get_or new i d) (get_or new j d)) as (λ o. cmp (get_or new i d) (get_or new j d) ≡ o → cmp (get_or new i d) (get_or new j d) ≡ Less) [
        | Less ↦ λ is. is
        | Equal ↦ λ is. (let no_test : true ≡ false = sym (ap is_eq is) ∙ differ in absurd (cc))
        | Greater ↦ λ is. (let back = total.antisymm (get_or new j d) (get_or new i d) ∙ ap ordering_reverse is in
            let no_test : true ≡ false = sym (ap is_lt back) ∙ far in absurd (cc))
      ] refl

  module _ (facts : List F) (ascend : Ascends cmp facts) where
    comparisons_rise : (x : F) → IsNonDecreasingBy (λ e. ordering_index (cmp e x)) facts
    comparisons_rise x i j d le lt = elim (cases_lt i j) [
      | inl before ↦ comparison_rises cmp total (get_or facts i d) (get_or facts j d) x (ascend i j d before lt)
      | inr ge ↦ let same : i ≡ j = omega arith in omega (arith, ap (λ k. ordering_index (cmp (get_or facts k d) x)) same)
    ]

    -- where a search ends at a gap the fact does not stand there
    pub none_found : (fact : F) (place : ℕ) → IsBinarySearchResult (λ e. cmp e fact) facts (Err place) → Contains facts fact → ⊥
    none_found fact place gap at =
        let parts = gap (comparisons_rise fact) in
        let k = at.0 in
        let itself : cmp fact fact ≡ Equal = Equal-from_test (cmp fact fact) ((eq_by_cmp_equiv total).refl fact) in
        let same : cmp (get_or facts k fact) fact ≡ Equal = ap (λ (e : F). cmp e fact) at.2 ∙ itself in
        elim (cases_lt k place) [
          | inl before ↦ omega (arith, ap ordering_index (sym (parts.0 k fact (omega arith) before) ∙ same))
          | inr after ↦ omega (arith, ap ordering_index (sym (parts.1 k fact after at.1) ∙ same))
        ]

    -- and where it ends at a fact that compares equal, this is the one or there is none
    pub one_found : (fact found : F) (place : ℕ) → place < length facts → found ≡ get_or facts place found → cmp (get_or facts place found) fact ≡ Equal
        → Contains facts found × (Contains facts fact → found ≡ fact)
    one_found fact found place within is equal =
        let at : Contains facts found = (place, within, sym is) in
        (at, λ there. alone facts ascend found fact at there (ap (λ (e : F). cmp e fact) is ∙ equal))

-- Facts without others.

last_pair : {X : Type 0} (R : X → X → Type 0) (xs : List X) (x y : X) → AllPairs R (xs ++ x ∷ []) → Contains xs y → R y x
last_pair R xs x y pairs at =
    let whole = length_push xs x in
    rw (get_or_append_left xs (x ∷ []) y at.0 at.1 ∙ at.2, get_or_push xs x y (length xs) refl) at (pairs at.0 (length xs) y at.1 (omega arith))

pub record AreLeft {F : Type 0} (cmp : F → F → Ordering) (seen others kept : List F) : Type 0 where
  pub exact : (fact : F) → Contains kept fact ↔ IsOnlyIn seen others fact
  pub ascend : Ascends cmp kept

pub left_none : {F : Type 0} (cmp : F → F → Ordering) (others kept : List F) → kept ≡ [] → AreLeft cmp [] others kept
left_none {F} cmp others kept none = subst (λ (l : List F). AreLeft cmp [] others l) (sym none) (record {
  exact = λ fact. (λ at. absurd (Contains-none fact at), λ both. absurd (Contains-none fact both.0));
  ascend = AllPairs-nil (λ a b. cmp a b ≡ Less);
})

pub left_on : {F : Type 0} (cmp : F → F → Ordering) (seen others kept more : List F) (fact copy : F) → AreLeft cmp seen others kept → Ascends cmp (seen ++ fact ∷ [])
    → (Contains others fact → ⊥) → copy ≡ fact → more ≡ kept ++ copy ∷ [] → AreLeft cmp (seen ++ fact ∷ []) others more
left_on {F} cmp seen others kept more fact copy so_far ascend new copied pushed =
    let grown : more ≡ kept ++ fact ∷ [] = pushed ∙ ap (λ (x : F). kept ++ x ∷ []) copied in
    subst (λ (l : List F). AreLeft cmp (seen ++ fact ∷ []) others l) (sym grown) (record {
      exact = λ other. (
        λ at. elim (Contains-push_cases kept fact other at) [
          | inl before ↦ (let both = (so_far.exact other).0 before in (Contains-append_left seen (fact ∷ []) other both.0, both.1))
          | inr same ↦ subst (λ (x : F). IsOnlyIn (seen ++ fact ∷ []) others x) same (Contains-push seen fact, new)
        ],
        λ both. elim (Contains-push_cases seen fact other both.0) [
          | inl before ↦ Contains-append_left kept (fact ∷ []) other ((so_far.exact other).1 (before, both.1))
          | inr same ↦ subst (λ (x : F). Contains (kept ++ fact ∷ []) x) same (Contains-push kept fact)
        ],
      );
      ascend = AllPairs-append (λ a b. cmp a b ≡ Less) kept (fact ∷ []) so_far.ascend (λ i j d lt len. absurd (omega (arith, lt, len)))
          (λ i j d lt_i lt_j.
          let first : j ≡ 0 = omega (arith, lt_j) in
          let below = last_pair (λ (a b : F). cmp a b ≡ Less) seen fact (get_or kept i d) ascend ((so_far.exact (get_or kept i d)).0 (Contains-get_or kept i d lt_i)).0 in
          subst (λ k. cmp (get_or kept i d) (get_or (fact ∷ []) k d) ≡ Less) (sym first) below);
    })

pub left_past : {F : Type 0} (cmp : F → F → Ordering) (seen others kept : List F) (fact : F) → AreLeft cmp seen others kept → Contains others fact
    → AreLeft cmp (seen ++ fact ∷ []) others kept
left_past {F} cmp seen others kept fact so_far there = record {
  exact = λ other. (
    λ at. (let both = (so_far.exact other).0 at in (Contains-append_left seen (fact ∷ []) other both.0, both.1)),
    λ both. elim (Contains-push_cases seen fact other both.0) [
      | inl before ↦ (so_far.exact other).1 (before, both.1)
      | inr same ↦ absurd (both.1 (Contains-same others fact other same there))
    ],
  );
  ascend = so_far.ascend;
}

-- the same, along a list
pairs_front : {X : Type 0} (R : X → X → Type 0) (xs : List X) (n : ℕ) → n ≤ length xs → AllPairs R xs → AllPairs R (take n xs)
pairs_front R xs n within pairs i j d lt len =
    let short = length-take-le n xs within in
    let lt_j : j < n = omega arith in
    let lt_i : i < n = omega arith in
    rw (get_or-take n xs i d lt_i, get_or-take n xs j d lt_j) (pairs i j d lt (omega arith))

module _ {F : Type 0} (cmp : F → F → Ordering) (facts others : List F) (ascend : Ascends cmp facts) (index : ℕ) (fact : F) (within : index < length facts) (is : fact ≡ get_or facts index fact) where
  grown : take (index + 1) facts ≡ take index facts ++ fact ∷ []
  grown = take_more facts index fact within ∙ ap (λ (x : F). take index facts ++ x ∷ []) (sym is)

  pub left_on_at : (kept more : List F) (copy : F) (test : Bool) → AreLeft cmp (take index facts) others kept → IsTrue test ↔ Contains others fact → test ≡ false
      → copy ≡ fact → more ≡ kept ++ copy ∷ [] → AreLeft cmp (take (index + 1) facts) others more
  left_on_at kept more copy test so_far tested fails copied pushed =
      subst (λ (l : List F). AreLeft cmp l others more) (sym grown)
      (left_on cmp (take index facts) others kept more fact copy so_far
      (subst (λ (l : List F). Ascends cmp l) grown (pairs_front (λ (a b : F). cmp a b ≡ Less) facts (index + 1) (omega (arith, within)) ascend))
      (λ there. true≢false (sym (tested.1 there) ∙ fails)) copied pushed)

  pub left_past_at : (kept : List F) (test : Bool) → AreLeft cmp (take index facts) others kept → IsTrue test ↔ Contains others fact → test ≡ true
      → AreLeft cmp (take (index + 1) facts) others kept
  left_past_at kept test so_far tested passes =
      subst (λ (l : List F). AreLeft cmp l others kept) (sym grown) (left_past cmp (take index facts) others kept fact so_far (tested.0 passes))
