-- Locals with their places in a list: as more objects are known, and where a local is looked for.
use Rattle.std.proofs.Common.{◌≡◌, ◌≢◌, ◌↔◌, ◌⊎◌, ◌&&◌, ℕ, zero, suc, ◌+◌, ◌<◌, ◌≤◌, Bool, true, false, true≢false, cond, nat_eq, ltb, nat_cmp, Less, Equal, Greater, Err, Some, None, List, [], ◌∷◌, ◌++◌, length, get_or, AllPairs, Contains, refl, sym, ap, ◌∙◌, subst, inl, inr, arith}
use Rattle.std.specs.Ordering.{ordering_index, ordering_then}
use Rattle.std.specs.List.{IsAllAdjacentAnswer}
use Rattle.std.specs.List.Sorted.{IsBinarySearchResult, IsNonDecreasingBy}
use Rattle.std.proofs.lemmas.Bool.{cases_eq, cases_lt, ltb-true, ltb-false}
use Rattle.std.proofs.lemmas.Bool.Decides.{nat_tests}
use Rattle.std.proofs.lemmas.Cmp.{ranked}
use Rattle.std.proofs.lemmas.Option.{none-some, same_Some}
use Rattle.std.proofs.lemmas.List.{get_or_default}
use Rattle.std.proofs.lemmas.List.Elements.{Contains-push, Contains-push_cases, Contains-append_left, Contains-get_or}
use Rattle.list_laws.proofs.OrderLaws.{less_from_cmp, same_from_cmp}
use Rattle.lore_base.proofs.ListLaws.{AllPairs-tail}
use Rattle.lore_base.proofs.MemberLaws.{Contains-none, Contains-head, Contains-tail}
use Rattle.oem_text.specs.Literals.{Body, IsMarkedAt}
use Rattle.oem_text.specs.inside.Places.{place_in, AscendByLocal, AreMarks, HaveDouble, AreDouble, ArePlaces}
use Rattle.oem_text.proofs.PlaceLaws.{marked_left, marked_last, marked_cases}

-- ---- one object more
pub marks_none : AreMarks [] []
marks_none = λ number place. (λ at. absurd (Contains-none (number, place) at), λ h. absurd (none-some h.body h.at))

-- one that no local marks
pub marks_same : (xs : List Body) (b : Body) (marks : List (ℕ × ℕ)) → b.mark ≡ None → AreMarks xs marks → AreMarks (xs ++ b ∷ []) marks
marks_same xs b marks none are = λ number place. (
  λ at. marked_left xs (b ∷ []) number place ((are number place).0 at),
  λ h. elim (marked_cases xs b number place h) [
    | inl left ↦ (are number place).1 left
    | inr last ↦ absurd (none-some number (sym none ∙ last.1))
  ],
)

-- one that a local marks
pub marks_more : (xs : List Body) (b : Body) (number place : ℕ) (marks : List (ℕ × ℕ)) → b.mark ≡ Some number → place ≡ length xs → AreMarks xs marks
    → AreMarks (xs ++ b ∷ []) (marks ++ (number, place) ∷ [])
marks_more xs b number place marks marked is_last are = λ other at. (
  λ there. elim (Contains-push_cases marks (number, place) (other, at) there) [
    | inl left ↦ marked_left xs (b ∷ []) other at ((are other at).0 left)
    | inr last ↦ (
        let same : number ≡ other = ap (λ (m : ℕ × ℕ). m.0) last in
        let here : length xs ≡ at = sym is_last ∙ ap (λ (m : ℕ × ℕ). m.1) last in
        subst (λ (q : ℕ). IsMarkedAt (xs ++ b ∷ []) q at) same
        (subst (λ (p : ℕ). IsMarkedAt (xs ++ b ∷ []) number p) here (marked_last xs b number marked)))
  ],
  λ h. elim (marked_cases xs b other at h) [
    | inl left ↦ Contains-append_left marks ((number, place) ∷ []) (other, at) ((are other at).1 left)
    | inr last ↦ (
        let same : number ≡ other = same_Some number other (sym marked ∙ last.1) in
        let here : place ≡ at = is_last ∙ sym last.0 in
        let is : ◌≡◌ {A = ℕ × ℕ} (number, place) (other, at) = λ i. (same i, here i) in
        subst (λ (m : ℕ × ℕ). Contains (marks ++ (number, place) ∷ []) m) is (Contains-push marks (number, place)))
  ],
)

-- ---- the place of a local
place_here : (mark : ℕ × ℕ) (marks : List (ℕ × ℕ)) (number : ℕ) → mark.0 ≡ number → place_in (mark ∷ marks) number ≡ Some mark.1
place_here mark marks number same =
    let test : nat_eq mark.0 number ≡ true = grind (arith, nat_tests) in
    ap (λ b. cond b (Some mark.1) (place_in marks number)) test

place_past : (mark : ℕ × ℕ) (marks : List (ℕ × ℕ)) (number : ℕ) → mark.0 ≢ number → place_in (mark ∷ marks) number ≡ place_in marks number
place_past mark marks number other =
    let test : nat_eq mark.0 number ≡ false = grind (arith, nat_tests) in
    ap (λ b. cond b (Some mark.1) (place_in marks number)) test

-- a place that a local has stands with it in the list
place_there : (marks : List (ℕ × ℕ)) (number place : ℕ) → place_in marks number ≡ Some place → Contains marks (number, place)
place_there [] number place h = absurd (none-some place h)
place_there (mark ∷ marks) number place h = elim (cases_eq mark.0 number) [
  | inl same ↦ (
      let at : mark.1 ≡ place = same_Some mark.1 place (sym (place_here mark marks number same) ∙ h) in
      let is : ◌≡◌ {A = ℕ × ℕ} mark (number, place) = λ i. (same i, at i) in
      subst (λ (m : ℕ × ℕ). Contains (mark ∷ marks) m) is (Contains-head mark marks))
  | inr other ↦ Contains-tail mark marks (number, place) (place_there marks number place (sym (place_past mark marks number other) ∙ h))
]

known_at : (marks : List (ℕ × ℕ)) → AscendByLocal marks → (number place k : ℕ) → k < length marks → get_or marks k (number, place) ≡ (number, place)
    → place_in marks number ≡ Some place
known_at [] ascend number place k lt is = absurd (omega (arith, lt))
known_at (mark ∷ marks) ascend number place zero lt is =
    place_here mark marks number (ap (λ (m : ℕ × ℕ). m.0) is) ∙ ap (λ (m : ℕ × ℕ). Some m.1) is
known_at (mark ∷ marks) ascend number place (suc k) lt is =
    let below : mark.0 < (get_or marks k (number, place)).0 = ascend 0 (suc k) (number, place) (omega arith) lt in
    let same : (get_or marks k (number, place)).0 ≡ number = ap (λ (m : ℕ × ℕ). m.0) is in
    place_past mark marks number (λ here. omega (arith, below, same, here))
    ∙ known_at marks (AllPairs-tail (λ (a b : ℕ × ℕ). a.0 < b.0) mark marks ascend) number place k (omega (arith, lt)) is

-- in the order of locals each has the place with which it stands there
pub place_known : (marks : List (ℕ × ℕ)) → AscendByLocal marks → (number place : ℕ) → Contains marks (number, place) → place_in marks number ≡ Some place
place_known marks ascend number place at = known_at marks ascend number place at.0 at.1 at.2

pub place_none : (marks : List (ℕ × ℕ)) (number : ℕ) → ((place : ℕ) → Contains marks (number, place) → ⊥) → place_in marks number ≡ None
place_none marks number none =
    elim (place_in marks number) as (λ o. place_in marks number ≡ o → o ≡ None) [
      | None ↦ λ is. refl
      | Some place ↦ λ is. absurd (none place (place_there marks number place is))
    ] refl

-- ---- a search by halves
pub found_mark : (marks : List (ℕ × ℕ)) (number at : ℕ) (d : ℕ × ℕ) → at < length marks → nat_cmp (get_or marks at d).0 number ≡ Equal
    → Contains marks (number, (get_or marks at d).1)
found_mark marks number at d lt equal =
    let place = (get_or marks at d).1 in
    let local : (get_or marks at d).0 ≡ number = ranked _ _ Equal (sym equal) in
    let same : ◌≡◌ {A = ℕ × ℕ} (get_or marks at d) (number, place) = ap (λ n. (n, place)) local in
    (at, lt, get_or_default marks at (number, place) d lt ∙ same)

comparison_rises : (a b n : ℕ) → a ≤ b → ordering_index (nat_cmp a n) ≤ ordering_index (nat_cmp b n)
comparison_rises a b n h = grind (arith, nat_tests)

comparisons_rise : (marks : List (ℕ × ℕ)) → AscendByLocal marks → (n : ℕ) → IsNonDecreasingBy (λ m. ordering_index (nat_cmp m.0 n)) marks
comparisons_rise marks ascend n i j d le lt =
    comparison_rises (get_or marks i d).0 (get_or marks j d).0 n
    (elim (cases_lt i j) [ inl before ↦ omega (arith, ascend i j d before lt) | inr ge ↦ let same : i ≡ j = omega arith in omega (arith, ap (λ k. (get_or marks k d).0) same) ])

pub no_mark : (marks : List (ℕ × ℕ)) → AscendByLocal marks → (number at : ℕ) → IsBinarySearchResult (λ m. nat_cmp m.0 number) marks (Err at)
    → (place : ℕ) → Contains marks (number, place) → ⊥
no_mark marks ascend number at gap place there =
    let parts = gap (comparisons_rise marks ascend number) in
    let k = there.0 in
    let is = ap (λ (m : ℕ × ℕ). m.0) there.2 in
    elim (cases_lt k at) [
      | inl before ↦ let lower : (get_or marks k (number, place)).0 < number = ranked _ _ Less (sym (parts.0 k (number, place) (omega arith) before)) in omega (arith, is)
      | inr after ↦ let higher : number < (get_or marks k (number, place)).0 = ranked _ _ Greater (sym (parts.1 k (number, place) after there.1)) in omega (arith, is)
    ]

-- ---- pairs in order, of which neighbours have different locals, or not
abbrev Precede : ℕ × ℕ → ℕ × ℕ → Type 0
Precede a b = ordering_then (nat_cmp a.0 b.0) (nat_cmp a.1 b.1) ≡ Less

precede_cases : (a b : ℕ × ℕ) → Precede a b → (a.0 < b.0) ⊎ ((a.0 ≡ b.0) × (a.1 < b.1))
precede_cases a b less =
    elim (nat_cmp a.0 b.0) as (λ o. nat_cmp a.0 b.0 ≡ o → ordering_then o (nat_cmp a.1 b.1) ≡ Less → (a.0 < b.0) ⊎ ((a.0 ≡ b.0) × (a.1 < b.1))) [
      | Less ↦ λ is later. inl (less_from_cmp a.0 b.0 is)
      | Equal ↦ λ is later. inr (same_from_cmp a.0 b.0 is, less_from_cmp a.1 b.1 later)
      | Greater ↦ λ is later. (let clash : Greater ≡ Less = later in cc)
    ] refl less

not_above : (a b : ℕ × ℕ) → Precede a b → a.0 ≤ b.0
not_above a b less = elim (precede_cases a b less) [
  | inl lower ↦ omega (arith, lower)
  | inr same ↦ omega (arith, same.0)
]

-- of two that aren't in the order of locals
one_local : (a b : ℕ × ℕ) → Precede a b → ltb a.0 b.0 ≡ false → (a.0 ≡ b.0) × (a.1 < b.1)
one_local a b less not_less = elim (precede_cases a b less) [
  | inl lower ↦ (let not_lower = ltb-false a.0 b.0 not_less in absurd (omega (arith, lower, not_lower)))
  | inr same ↦ same
]

pub ascend_told : (sorted : List (ℕ × ℕ)) (told : Bool) → told ≡ true → AllPairs Precede sorted
    → IsAllAdjacentAnswer (λ a b answer. answer ≡ ltb a.0 b.0) sorted told → AscendByLocal sorted
ascend_told sorted false is ascend next = absurd (true≢false (sym is))
ascend_told sorted true is ascend next = λ i j d lt len. (
    let step : (get_or sorted i d).0 < (get_or sorted (i + 1) d).0 = ltb-true _ _ (sym (next i d (omega (arith, lt, len)))) in
    elim (cases_lt (i + 1) j) [
      | inl more ↦ (let above = not_above (get_or sorted (i + 1) d) (get_or sorted j d) (ascend (i + 1) j d more len) in omega (arith, step, above))
      | inr last ↦ (let same : i + 1 ≡ j = omega (arith, lt, last) in subst (λ (n : ℕ). (get_or sorted i d).0 < (get_or sorted n d).0) same step)
    ])

-- the same marks in another order
abbrev pub AreSame : List (ℕ × ℕ) → List (ℕ × ℕ) → Type 0
AreSame sorted marks = (mark : ℕ × ℕ) → Contains sorted mark ↔ Contains marks mark

pub double_told : (sorted marks : List (ℕ × ℕ)) (told : Bool) → told ≡ false → AllPairs Precede sorted → AreSame sorted marks
    → IsAllAdjacentAnswer (λ a b answer. answer ≡ ltb a.0 b.0) sorted told → HaveDouble marks
double_told sorted marks true is ascend same next = absurd (true≢false is)
double_told [] marks false is ascend same next = let low = next.1 in absurd (omega (arith, low))
double_told (first ∷ sorted) marks false is ascend same next =
    let all = first ∷ sorted in
    let k = next.0 in
    let low = next.1 in
    let a = get_or all k first in
    let b = get_or all (k + 1) first in
    let less : Precede a b = ascend k (k + 1) first (omega arith) low in
    let one = one_local a b less (sym (next.2 first)) in
    let pair : ◌≡◌ {A = ℕ × ℕ} a (b.0, a.1) = ap (λ n. (n, a.1)) one.0 in
    record {
      number = b.0;
      first = a.1;
      second = b.1;
      apart = one.1;
      one = (same (b.0, a.1)).0 (subst (λ (m : ℕ × ℕ). Contains all m) pair (Contains-get_or all k first (omega (arith, low))));
      other = (same b).0 (Contains-get_or all (k + 1) first low);
    }

-- ---- all objects
pub places_of_marks : (bodies : List Body) (marks sorted : List (ℕ × ℕ)) → AreMarks bodies marks → AreSame sorted marks → AscendByLocal sorted
    → ArePlaces bodies (place_in sorted)
places_of_marks bodies marks sorted are same ascend = record {
  marked = λ number place h. (are number place).0 ((same (number, place)).0 (place_there sorted number place h));
  known = λ number place h. place_known sorted ascend number place ((same (number, place)).1 ((are number place).1 h));
}

pub double_of_marks : (bodies : List Body) (marks : List (ℕ × ℕ)) → AreMarks bodies marks → HaveDouble marks → AreDouble bodies
double_of_marks bodies marks are double = record {
  number = double.number;
  first = double.first;
  second = double.second;
  apart = double.apart;
  one = (are double.number double.first).0 double.one;
  other = (are double.number double.second).0 double.other;
}

-- pairs that are equal by both parts are one
pub same_mark : (a b : ℕ × ℕ) → (nat_eq a.0 b.0 && nat_eq a.1 b.1) ≡ true → a ≡ b
same_mark a b same =
    let local : a.0 ≡ b.0 = grind (arith, nat_tests) in
    let place : a.1 ≡ b.1 = grind (arith, nat_tests) in
    λ i. (local i, place i)

-- a mark that stands at a place
pub here_mark : (marks : List (ℕ × ℕ)) (number at : ℕ) (mark : ℕ × ℕ) → at < length marks → mark ≡ get_or marks at mark → mark.0 ≡ number
    → Contains marks (number, mark.1)
here_mark marks number at mark lt is local =
    let same : ◌≡◌ {A = ℕ × ℕ} mark (number, mark.1) = ap (λ n. (n, mark.1)) local in
    (at, lt, get_or_default marks at (number, mark.1) mark lt ∙ sym is ∙ same)
