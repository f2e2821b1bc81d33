-- Runs as they are kept are the maximal runs of the moments that they tell, and of those that hold one moment the facts are
-- distinct.
use Rattle.std.proofs.Common.{◌≡◌, ◌≢◌, ◌⊎◌, ◌↔◌, ℕ, ◌+◌, ◌-◌, ◌<◌, ◌≤◌, min, inl, inr, List, [], ◌∷◌, length, map, cond, get_or}
use Rattle.std.proofs.Common.{true, false, ◌&&◌, nat_le, nat_lt, AllPairs, Contains, refl, sym, ap, ◌∙◌, subst, arith}
use Rattle.std.specs.List.{filter}
use Rattle.std.proofs.lemmas.Bool.{cases_lt}
use Rattle.std.proofs.lemmas.Bool.Decides.{nat_tests}
use Rattle.std.proofs.lemmas.List.{get_or_past, length-map, get_or-map}
use Rattle.lore_base.proofs.MemberLaws.{Contains-none, Contains-same}
use Rattle.std.proofs.lemmas.List.Elements.{Contains-get_or}
use Rattle.std.proofs.lemmas.List.Kept.{AllPairs-cons}
use Rattle.lore_base.proofs.MemberLaws.{Contains-filter, unfiltered}
use Rattle.lore_base.proofs.ListLaws.{AllPairs-head, AllPairs-tail}
use Rattle.list_laws.proofs.MemberLaws.{Contains-map, Contains-from_map}
use Rattle.list_laws.proofs.PairLaws.{AllPairs-nil}
use Rattle.doem_facts.proofs.FactSetLaws.{pair_cases}
use Rattle.doem_history.specs.Types.{Run}
use Rattle.doem_history.specs.Runs.{Stands, IsRun, AreRuns}
use Rattle.doem_history.specs.Histories.{holds, facts_at}
use Rattle.doem_history.specs.inside.Kept.{Apart, AreKept, within}

-- a kept run of the fact holds the moment
pub record IsHeld {F : Type 0} (moment : ℕ) (runs : List (Run F)) (fact : F) : Type 0 where
  pub run : Run F
  pub among : Contains runs run
  pub of : run.fact ≡ fact
  pub since : run.begin ≤ moment
  pub until : moment < run.end

pub held_begin : (begin end moment : ℕ) → (nat_le begin moment && nat_lt moment end) ≡ true → (begin ≤ moment) × (moment < end)
held_begin begin end moment passes = (grind (arith, nat_tests), grind (arith, nat_tests))

held_test : (begin end moment : ℕ) → begin ≤ moment → moment < end → (nat_le begin moment && nat_lt moment end) ≡ true
held_test begin end moment since until = grind (arith, nat_tests)

pub held : {F : Type 0} (moment : ℕ) (runs : List (Run F)) (fact : F) → Contains (facts_at moment runs) fact → IsHeld moment runs fact
held moment runs fact at =
    let found = Contains-from_map (λ run. run.fact) (filter (holds moment) runs) fact at in
    let passed = unfiltered (holds moment) runs found.0 found.1 in
    let both = held_begin found.0.begin found.0.end moment passed.1 in
    record { run = found.0; among = passed.0; of = found.2; since = both.0; until = both.1 }

pub is_held : {F : Type 0} (moment : ℕ) (runs : List (Run F)) (run : Run F) → Contains runs run → run.begin ≤ moment → moment < run.end
    → Contains (facts_at moment runs) run.fact
is_held moment runs run at since until =
    Contains-map (λ r. r.fact) (filter (holds moment) runs) run (Contains-filter (holds moment) runs run at (held_test run.begin run.end moment since until))

-- Facts of runs that hold one moment.

-- of two runs of one fact one ends before the other begins
abbrev pub AreApart : {F : Type 0} → Run F → Run F → Type 0
AreApart a b = Apart a b ⊎ Apart b a

both_hold : {F : Type 0} (moment : ℕ) (a b : Run F) → AreApart a b → a.fact ≡ b.fact → a.begin ≤ moment → moment < a.end → b.begin ≤ moment → moment < b.end → ⊥
both_hold moment a b apart same since_a until_a since_b until_b = elim apart [
  | inl first ↦ (let ends = first same in omega arith)
  | inr second ↦ (let ends = second (sym same) in omega arith)
]

pub distinct_held : {F : Type 0} (moment : ℕ) (runs : List (Run F)) → AllPairs AreApart runs → AllPairs (λ a b. a ≢ b) (facts_at moment runs)
distinct_held {F} moment [] apart = AllPairs-nil (λ a b. a ≢ b)
distinct_held {F} moment (run ∷ runs) apart =
    let others = distinct_held moment runs (AllPairs-tail AreApart run runs apart) in
    elim (holds moment run) as (λ b. holds moment run ≡ b → AllPairs (λ (x y : F). x ≢ y) (map (λ r. r.fact) (cond b (run ∷ filter (holds moment) runs) (filter (holds moment) runs)))) [
      | true ↦ λ passes.
          let both = held_begin run.begin run.end moment passes in
          AllPairs-cons (λ (x y : F). x ≢ y) run.fact (facts_at moment runs) (λ k d lt same.
          let other = held moment runs (get_or (facts_at moment runs) k d) (Contains-get_or (facts_at moment runs) k d lt) in
          both_hold moment run other.run (AllPairs-head AreApart run runs apart other.run other.among) (same ∙ sym other.of) both.0 both.1 other.since other.until) others
      | false ↦ λ fails. others
    ] refl

-- the moments are those that the runs tell
pub record Tells {F : Type 0} (runs : List (Run F)) (times : List (List F)) : Type 0 where
  pub exact : (moment : ℕ) → moment < length times → (fact : F) → Contains (get_or times moment []) fact ↔ Contains (facts_at moment runs) fact

-- a fact stands at no moment that isn't there
stands_within : {F : Type 0} (times : List (List F)) (moment : ℕ) (fact : F) → Stands times moment fact → moment < length times
stands_within {F} times moment fact stands = elim (cases_lt moment (length times)) [
  | inl within ↦ within
  | inr beyond ↦ absurd (Contains-none fact (subst (λ (l : List F). Contains l fact) (get_or_past times moment [] beyond) stands))
]

module _ {F : Type 0} (times : List (List F)) (runs : List (Run F)) (kept : AreKept (length times) runs) (tells : Tells runs times) where
  -- of one fact no two runs hold one moment, nor does one end where the other begins
  pub once : (a b : Run F) → Contains runs a → Contains runs b → a.fact ≡ b.fact → (a ≡ b) ⊎ ((a.end < b.begin) ⊎ (b.end < a.begin))
  once a b at_a at_b same = elim (pair_cases Apart runs a b kept.apart at_a at_b) [
    | inl is ↦ inl is
    | inr either ↦ elim either [ inl before ↦ inr (inl (before same)) | inr after ↦ inr (inr (after (sym same))) ]
  ]

  held_then : (moment : ℕ) (fact : F) → Stands times moment fact → IsHeld moment runs fact
  held_then moment fact stands = held moment runs fact ((tells.exact moment (stands_within times moment fact stands) fact).0 stands)

  -- a fact doesn't stand right before one of its runs, nor where that one ends
  not_before : (run : Run F) → Contains runs run → (before : ℕ) → before + 1 ≡ run.begin → Stands times before run.fact → ⊥
  not_before run at before is stands =
      let other = held_then before run.fact stands in
      let some = (kept.each run at).some in
      let others = (kept.each other.run other.among).some in
      let since = other.since in let until = other.until in
      elim (once run other.run at other.among (sym other.of)) [
        | inl same ↦ (let begin : run.begin ≡ other.run.begin = ap (λ (r : Run F). r.begin) same in absurd (omega arith))
        | inr either ↦ elim either [ inl first ↦ absurd (omega arith) | inr second ↦ absurd (omega arith) ]
      ]

  not_behind : (run : Run F) → Contains runs run → Stands times run.end run.fact → ⊥
  not_behind run at stands =
      let other = held_then run.end run.fact stands in
      let some = (kept.each run at).some in
      let others = (kept.each other.run other.among).some in
      let since = other.since in let until = other.until in
      elim (once run other.run at other.among (sym other.of)) [
        | inl same ↦ (let end : run.end ≡ other.run.end = ap (λ (r : Run F). r.end) same in absurd (omega arith))
        | inr either ↦ elim either [ inl first ↦ absurd (omega arith) | inr second ↦ absurd (omega arith) ]
      ]

  stands_in : (run : Run F) → Contains runs run → (moment : ℕ) → moment < length times → run.begin ≤ moment → moment < run.end → Stands times moment run.fact
  stands_in run at moment there since until = (tells.exact moment there run.fact).1 (is_held moment runs run at since until)

  not_at_end : (run : Run F) → Contains runs run → Stands times (min run.end (length times)) run.fact → ⊥
  not_at_end run at stands = elim (cases_lt run.end (length times)) [
    | inl over ↦ (let is : min run.end (length times) ≡ run.end = omega arith in not_behind run at (subst (λ k. Stands times k run.fact) is stands))
    | inr on ↦ (let there = stands_within times (min run.end (length times)) run.fact stands in absurd (omega arith))
  ]

  -- a kept run is a maximal one, ended where the moments end
  kept_is_run : (run : Run F) → Contains runs run → IsRun times (within (length times) run)
  kept_is_run run at =
      let is = kept.each run at in let some = is.some in let begun = is.begun in record {
        some = omega arith;
        stands = λ moment since until. stands_in run at moment (omega arith) since (omega arith);
        first = λ before is_first stands. not_before run at before is_first stands;
        last = λ stands. not_at_end run at stands;
      }

  run_is_kept : (run : Run F) → IsRun times run → Contains (map (within (length times)) runs) run
  run_is_kept run is =
      let some = is.some in
      let start = is.stands run.begin (omega arith) some in
      let there = stands_within times run.begin run.fact start in
      let other = held_then run.begin run.fact start in
      let since = other.since in let until = other.until in
      let begin : other.run.begin ≡ run.begin = elim (cases_lt other.run.begin run.begin) [
        | inr late ↦ omega arith
        | inl early ↦ absurd (is.first (run.begin - 1) (omega arith) (subst (λ (f : F). Stands times (run.begin - 1) f) other.of
            (stands_in other.run other.among (run.begin - 1) (omega arith) (omega arith) (omega arith))))
      ] in
      let end : min other.run.end (length times) ≡ run.end = elim (cases_lt run.end (min other.run.end (length times))) [
        | inl short ↦ absurd (is.last (subst (λ (f : F). Stands times run.end f) other.of
            (stands_in other.run other.among run.end (omega arith) (omega arith) (omega arith))))
        | inr long ↦ elim (cases_lt (min other.run.end (length times)) run.end) [
          | inr same ↦ omega arith
          | inl further ↦ absurd (not_at_end other.run other.among (subst (λ (f : F). Stands times (min other.run.end (length times)) f) (sym other.of)
              (is.stands (min other.run.end (length times)) (omega arith) further)))
        ]
      ] in
      let fact = other.of in
      Contains-same (map (within (length times)) runs) (within (length times) other.run) run
      (λ i. record { fact = fact i; begin = begin i; end = end i })
      (Contains-map (within (length times)) runs other.run other.among)

  kept_distinct : AllPairs (λ a b. a ≢ b) (map (within (length times)) runs)
  kept_distinct i j d lt len same =
      let long = length-map runs (within (length times)) in
      let lt_j : j < length runs = omega arith in
      let lt_i : i < length runs = omega arith in
      let x = get_or runs i d in let y = get_or runs j d in
      let equal : within (length times) x ≡ within (length times) y =
      sym (get_or-map (within (length times)) runs i d d lt_i) ∙ same ∙ get_or-map (within (length times)) runs j d d lt_j in
      let apart = kept.apart i j d lt lt_j (ap (λ (r : Run F). r.fact) equal) in
      let begin : x.begin ≡ y.begin = ap (λ (r : Run F). r.begin) equal in
      let some = (kept.each x (Contains-get_or runs i d lt_i)).some in
      omega arith

  -- the kept runs, ended where the moments end, are all maximal runs
  pub kept_are_runs : AreRuns times (map (within (length times)) runs)
  kept_are_runs = record {
    distinct = kept_distinct;
    exact = λ run. (
      λ at. (let from = Contains-from_map (within (length times)) runs run at in subst (λ (r : Run F). IsRun times r) from.2 (kept_is_run from.0 from.1)),
      λ is. run_is_kept run is,
    );
  }
