-- The members of a club from a person on: behind a member the next one is ten persons on.
use Rattle.std.proofs.Common.{◌≡◌, ℕ, zero, suc, ◌+◌, ◌-◌, ◌%◌, ◌<◌, ◌≤◌, Bool, false, List, ◌∷◌, refl, sym, ap, ◌∙◌, arith, eq-eqb, ne_eqb}
use Rattle.std.specs.Prelude.{◌==◌}
use Rattle.std.specs.List.{filter}
use Rattle.oem_text.specs.Generated.{numbers_from, club_members}

-- those of club c from person i on
abbrev pub members_from : (count c i : ℕ) → List ℕ
members_from count c i = filter (λ k. k % 10 == c) (numbers_from i (count + 1 - i))

-- numbers at the front that fail the test
skipped : (test : ℕ → Bool) (first many k : ℕ) → ((i : ℕ) → first ≤ i → i < first + k → test i ≡ false)
    → filter test (numbers_from first many) ≡ filter test (numbers_from (first + k) (many - k))
skipped test first many zero fail =
    let same : first ≡ first + 0 = omega arith in
    let all : many ≡ many - 0 = omega arith in
    ap (λ (n : ℕ). filter test (numbers_from n many)) same ∙ ap (λ (n : ℕ). filter test (numbers_from (first + 0) n)) all
skipped test first zero (suc k) fail =
    let none : 0 ≡ 0 - suc k = omega arith in
    ap (λ (n : ℕ). filter test (numbers_from (first + suc k) n)) none
skipped test first (suc many) (suc k) fail =
    let here : filter test (numbers_from first (suc many)) ≡ filter test (numbers_from (first + 1) many) =
    rw (fail first (omega arith) (omega arith)) refl in
    let turn : first + 1 + k ≡ first + suc k = omega arith in
    let left : many - k ≡ suc many - suc k = omega arith in
    here ∙ skipped test (first + 1) many k (λ i low below. fail i (omega (arith, low)) (omega (arith, below)))
    ∙ ap (λ (n : ℕ). filter test (numbers_from n (many - k))) turn ∙ ap (λ (n : ℕ). filter test (numbers_from (first + suc k) n)) left

-- fewer than ten numbers from a number to one with the same last digit
same_digit : (i j : ℕ) → i < j → j < i + 10 → j % 10 ≡ i % 10 → ⊥
same_digit i j low below same = omega (arith, low, below, same)

-- the first member is one of the first ten persons
pub members_first : (count c i : ℕ) → i % 10 ≡ c → 1 ≤ i → i ≤ 10 → members_from count c i ≡ club_members count c
members_first count c i digit some low =
    let test : ℕ → Bool = λ k. k % 10 == c in
    let here : 1 + (i - 1) ≡ i = omega (arith, some) in
    let left : count - (i - 1) ≡ count + 1 - i = omega (arith, some) in
    let fail : (j : ℕ) → 1 ≤ j → j < 1 + (i - 1) → test j ≡ false = λ j first below.
    ne_eqb (j % 10) c (λ same. same_digit j i (omega (arith, here, below)) (omega (arith, first, low)) (digit ∙ sym same)) in
    sym (skipped test 1 count (i - 1) fail ∙ ap (λ (n : ℕ). filter test (numbers_from n (count - (i - 1)))) here
    ∙ ap (λ (n : ℕ). filter test (numbers_from i n)) left)

pub members_next : (count c i : ℕ) → i % 10 ≡ c → i ≤ count → members_from count c i ≡ i ∷ members_from count c (i + 10)
members_next count c i digit low =
    let test : ℕ → Bool = λ k. k % 10 == c in
    let more : count + 1 - i ≡ suc (count - i) = omega (arith, low) in
    let here : filter test (numbers_from i (suc (count - i))) ≡ i ∷ filter test (numbers_from (i + 1) (count - i)) =
    rw (eq-eqb (i % 10) c digit) refl in
    let turn : i + 1 + 9 ≡ i + 10 = omega arith in
    let left : count - i - 9 ≡ count + 1 - (i + 10) = omega arith in
    let fail : (j : ℕ) → i + 1 ≤ j → j < i + 1 + 9 → test j ≡ false = λ j first below.
    ne_eqb (j % 10) c (λ same. same_digit i j (omega (arith, first)) (omega (arith, below)) (same ∙ sym digit)) in
    let others : filter test (numbers_from (i + 1) (count - i)) ≡ members_from count c (i + 10) = skipped test (i + 1) (count - i) 9 fail
    ∙ ap (λ (n : ℕ). filter test (numbers_from n (count - i - 9))) turn ∙ ap (λ (n : ℕ). filter test (numbers_from (i + 10) n)) left in
    ap (λ (n : ℕ). filter test (numbers_from i n)) more ∙ here ∙ ap (λ (l : List ℕ). i ∷ l) others
