-- Runs of bytes that pass a test.
use Rattle.std.proofs.Common.{◌≡◌, ℕ, ◌<◌, ◌≤◌, Bool, true, false, List, [], ◌∷◌, ◌++◌, length, get_or, take, zero, suc, refl, ap, ◌∙◌, inl, inr, arith, eqb, eqb-true}
use Rattle.std.specs.List.{list_all, list_any}
use Rattle.std.proofs.lemmas.Bool.{and_parts, and_from, or_from, cases_Bool, cases_lt}
use Rattle.std.proofs.lemmas.List.{length-append, get_or_append_left}
use Rattle.lorel_lex.specs.inside.Lexing.{EndsRun}

pub list_all-get_or : (test : ℕ → Bool) (bytes : List ℕ) (i : ℕ) → list_all test bytes ≡ true → i < length bytes → test (get_or bytes i 0) ≡ true
list_all-get_or test [] i e l = absurd (omega arith)
list_all-get_or test (byte ∷ bytes) zero e l = (and_parts (test byte) (list_all test bytes) e).0
list_all-get_or test (byte ∷ bytes) (suc i) e l = list_all-get_or test bytes i (and_parts (test byte) (list_all test bytes) e).1 (omega arith)

-- what passes one test passes another
pub list_all-map : (test other : ℕ → Bool) (bytes : List ℕ) → ((byte : ℕ) → test byte ≡ true → other byte ≡ true) → list_all test bytes ≡ true → list_all other bytes ≡ true
list_all-map test other [] also e = refl
list_all-map test other (byte ∷ bytes) also e =
    let both = and_parts (test byte) (list_all test bytes) e in
    and_from (other byte) (list_all other bytes) (also byte both.0) (list_all-map test other bytes also both.1)

-- a byte that fails the test doesn't stand among bytes that pass it
pub none_among : (test : ℕ → Bool) (bytes : List ℕ) (byte : ℕ) → test byte ≡ false → list_all test bytes ≡ true → list_any (λ (b : ℕ). eqb b byte) bytes ≡ false
none_among test [] byte fails e = refl
none_among test (first ∷ bytes) byte fails e =
    let both = and_parts (test first) (list_all test bytes) e in
    elim (cases_Bool (eqb first byte)) [
      | inl same ↦ absurd (let passes : test byte ≡ true = ap test (let back : byte ≡ first = cc (eqb-true first byte same) in back) ∙ both.0 in cc)
      | inr other ↦ or_from (eqb first byte) (list_any (λ (b : ℕ). eqb b byte) bytes) other (none_among test bytes byte fails both.1)
    ]

-- a front that passes a test is no longer than the run
pub run_most : (test : ℕ → Bool) (bytes front back : List ℕ) (len : ℕ) → EndsRun test bytes len → bytes ≡ front ++ back → list_all test front ≡ true → length front ≤ len
run_most test bytes front back len run e all = elim (cases_lt len (length front)) [
  | inl below ↦ absurd (
      let within : len < length bytes = omega (arith, ap length e, length-append front back) in
      let stops : test (get_or bytes len 0) ≡ false = run.stops within in
      let same : get_or bytes len 0 ≡ get_or front len 0 = ap (λ (l : List ℕ). get_or l len 0) e ∙ get_or_append_left front back 0 len below in
      let passes = list_all-get_or test front len all below in
      let same_test : test (get_or bytes len 0) ≡ test (get_or front len 0) = ap test same in
      cc)
  | inr above ↦ above
]

-- a run whose first byte passes has a byte
pub run_some : (test : ℕ → Bool) (bytes : List ℕ) (len : ℕ) → EndsRun test bytes len → 0 < length bytes → test (get_or bytes 0 0) ≡ true → 0 < len
run_some test bytes zero run some e = absurd (let stops : test (get_or bytes 0 0) ≡ false = run.stops some in cc)
run_some test bytes (suc len) run some e = omega arith

-- each list of bytes has a run
pub a_run : (test : ℕ → Bool) (bytes : List ℕ) → (len : ℕ) × EndsRun test bytes len
a_run test [] = (0, record { within = omega arith; passed = refl; stops = λ l. absurd (omega arith) })
a_run test (byte ∷ bytes) = elim (cases_Bool (test byte)) [
  | inl passes ↦
      let (len, run) = a_run test bytes in (
        suc len,
        record {
          within = omega (arith, run.within);
          passed = and_from (test byte) (list_all test (take len bytes)) passes run.passed;
          stops = λ l. run.stops (omega arith);
        },
      )
  | inr fails ↦ (0, record { within = omega arith; passed = refl; stops = λ l. fails })
]
