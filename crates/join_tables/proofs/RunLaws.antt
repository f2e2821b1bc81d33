-- The rows under one number, among rows in the order of their numbers, and the table that they make up.
use Rattle.std.proofs.Common.{◌≡◌, ◌≢◌, ◌<◌, ◌≤◌, ◌+◌, ◌++◌, ℕ, ℤ, ◌-◌, inl, inr, Bool, true, false, List, [], ◌∷◌, length, get_or, take, drop, nat_eq, ◌&&◌, refl, sym, ap, ◌∙◌, subst, arith, length-drop}
use Rattle.std.specs.List.{Contains}
use Rattle.std.specs.List.Sorted.{IsNonDecreasingBy, IsPartitionedBy, IsPartitionPoint}
use Rattle.std.specs.Ordering.{int_cmp, int_eq, is_eq, nat_cmp, ordering_then, ordering_index}
use Rattle.std.specs.declared.cmp.Ordering.{Ordering}
use Rattle.std.specs.declared.cmp.Ordering.TheVariants.{Less, Equal, Greater}
use Rattle.std.proofs.lemmas.Bool.{cases_lt, true≢false}
use Rattle.std.proofs.lemmas.Bool.Decides.{nat_tests, Decides-int_eq}
use Rattle.std.proofs.lemmas.Bool.{eqb-true}
use Rattle.std.proofs.lemmas.Cmp.{int_cmp_total, tied_itself}
use Rattle.std.proofs.lemmas.List.{take_more, take_all, get_or-drop, get_or-take, get_or_default, length-take-le}
use Rattle.std.proofs.lemmas.List.Elements.{Contains-append_left, Contains-push, Contains-push_cases}
use Rattle.std.proofs.lemmas.List.Sorted.{IsNonDecreasingBy-drop}
use Rattle.list_laws.proofs.OrderLaws.{comparison_rises}
use Rattle.join_tables.specs.Types.{Oid}
use Rattle.join_tables.specs.inside.Runs.{AscendByNumber, side_of, IsFromNumber, TakesRun}

left : (b c : Bool) → (b && c) ≡ true → b ≡ true
left true c h = refl
left false c h = h

right : (b c : Bool) → (b && c) ≡ true → c ≡ true
right true c h = h
right false c h = absurd (true≢false (sym h))

-- objects that test as equal are one object, and rows one row
pub same_oid : (a b : Oid) → nat_eq a.0 b.0 ≡ true → a ≡ b
same_oid a b h = ap (λ (n : ℕ). record { 0 = n }) (eqb-true a.0 b.0 h)

pub same_row : (a b : ℤ × Oid) → (int_eq a.0 b.0 && nat_eq (a.1).0 (b.1).0) ≡ true → a ≡ b
same_row a b h =
    let numbers : a.0 ≡ b.0 = (Decides-int_eq a.0 b.0).0 (left (int_eq a.0 b.0) (nat_eq (a.1).0 (b.1).0) h) in
    let oids : (a.1).0 ≡ (b.1).0 = eqb-true (a.1).0 (b.1).0 (right (int_eq a.0 b.0) (nat_eq (a.1).0 (b.1).0) h) in
    λ i. (numbers i, record { 0 = oids i })

module _ (number : ℤ) where
  row_rises : (a b : ℤ × Oid) → ordering_then (int_cmp a.0 b.0) (nat_cmp (a.1).0 (b.1).0) ≡ Less → ordering_index (side_of number a) ≤ ordering_index (side_of number b)
  row_rises a b less =
      elim (int_cmp a.0 b.0) as (λ (p : Ordering). int_cmp a.0 b.0 ≡ p → ordering_then p (nat_cmp (a.1).0 (b.1).0) ≡ Less → ordering_index (side_of number a) ≤ ordering_index (side_of number b)) [
        | Less ↦ λ is _. comparison_rises int_cmp int_cmp_total a.0 b.0 number is
        | Equal ↦ λ is _. (let same : int_cmp a.0 number ≡ int_cmp b.0 number = int_cmp_total.congr a.0 b.0 number is in omega (arith, ap ordering_index same))
        | Greater ↦ λ _ not_less. absurd (omega (arith, ap ordering_index not_less))
      ] refl less

  -- numbers do not fall
  pub rows_rise : (rows : List (ℤ × Oid)) → AscendByNumber rows → IsNonDecreasingBy (λ row. ordering_index (side_of number row)) rows
  rows_rise rows ascend i j d le lt = elim (cases_lt i j) [
    | inl before ↦ row_rises (get_or rows i d) (get_or rows j d) (ascend i j d before lt)
    | inr ge ↦ (let same : i ≡ j = omega arith in omega (arith, ap (λ k. ordering_index (side_of number (get_or rows k d))) same))
  ]

  pub rows_parted : (rows : List (ℤ × Oid)) → IsNonDecreasingBy (λ row. ordering_index (side_of number row)) rows
      → IsPartitionedBy (λ row. nat_eq (ordering_index (side_of number row)) 0) rows
  rows_parted rows rise i j d le lt at = (let up = rise i j d le lt in grind (arith, nat_tests))

  -- a row under the number is on neither side of it
  own_side : (oid : Oid) (row : ℤ × Oid) → row ≡ (number, oid) → ordering_index (side_of number row) ≡ 1
  own_side oid row is = ap (λ (r : ℤ × Oid). ordering_index (side_of number r)) is ∙ ap ordering_index (tied_itself int_cmp_total number)

  not_less : (o : Ordering) → nat_eq (ordering_index o) 0 ≡ false → o ≢ Less
  not_less Less h less = absurd (cc)
  not_less Equal h less = absurd (cc)
  not_less Greater h less = absurd (cc)

  -- from the first row on that has no lesser number
  pub from_number : (rows : List (ℤ × Oid)) (start : ℕ) → IsNonDecreasingBy (λ row. ordering_index (side_of number row)) rows
      → IsPartitionPoint (λ row. nat_eq (ordering_index (side_of number row)) 0 ≡ true) (λ row. nat_eq (ordering_index (side_of number row)) 0 ≡ false) rows start
      → IsFromNumber number (drop start rows)
  from_number rows start rise point = record {
    rise = IsNonDecreasingBy-drop (λ row. ordering_index (side_of number row)) start rows rise;
    none_before = λ k d lt.
        let inside : start + k < length rows = omega (arith, lt, length-drop start rows) in
        subst (λ (r : ℤ × Oid). side_of number r ≢ Less) (sym (get_or-drop start rows k d)) (not_less (side_of number (get_or rows (start + k) d)) (point.1 (start + k) d (omega arith) inside));
  }

  -- what is taken from there on is taken of all
  pub taken_from : (rows : List (ℤ × Oid)) (start : ℕ) (old new : List Oid)
      → IsPartitionPoint (λ row. nat_eq (ordering_index (side_of number row)) 0 ≡ true) (λ row. nat_eq (ordering_index (side_of number row)) 0 ≡ false) rows start
      → TakesRun (drop start rows) number old new → TakesRun rows number old new
  taken_from rows start old new point run = record {
    kept = run.kept;
    taken = λ oid at. elim (cases_lt at.0 start) [
      | inl before ↦
          let low = point.0 at.0 (number, oid) (omega arith) before in
          let one = own_side oid (get_or rows at.0 (number, oid)) at.2 in
          absurd (true≢false (sym low ∙ ap (λ n. nat_eq n 0) one))
      | inr behind ↦
          let place : start + (at.0 - start) ≡ at.0 = omega (arith, behind) in
          let inside : at.0 - start < length (drop start rows) = omega (arith, behind, at.1, length-drop start rows) in
          run.taken oid (at.0 - start, inside, get_or-drop start rows (at.0 - start) (number, oid) ∙ ap (λ n. get_or rows n (number, oid)) place ∙ at.2)
    ];
  }

  pub run_none : (rows : List (ℤ × Oid)) (oids : List Oid) → TakesRun (take 0 rows) number oids oids
  run_none rows oids = record { kept = λ oid at. at; taken = λ oid at. absurd (omega (arith, at.1)) }

  -- a row more that is under it
  pub run_more : (rows : List (ℤ × Oid)) (old middle new : List Oid) (i : ℕ) (d : ℤ × Oid) → i < length rows → is_eq (side_of number (get_or rows i d)) ≡ true
      → new ≡ middle ++ (get_or rows i d).1 ∷ [] → TakesRun (take i rows) number old middle → TakesRun (take (i + 1) rows) number old new
  run_more rows old middle new i d within is grown so_far = record {
    kept = λ oid at. subst (λ (l : List Oid). Contains l oid) (sym grown) (Contains-append_left middle ((get_or rows i d).1 ∷ []) oid (so_far.kept oid at));
    taken = λ oid at. subst (λ (l : List Oid). Contains l oid) (sym grown)
        (elim (Contains-push_cases (take i rows) (get_or rows i d) (number, oid)
        (subst (λ (l : List (ℤ × Oid)). Contains l (number, oid)) (take_more rows i d within) at)) [
          | inl early ↦ Contains-append_left middle ((get_or rows i d).1 ∷ []) oid (so_far.taken oid early)
          | inr same ↦ subst (λ (o : Oid). Contains (middle ++ (get_or rows i d).1 ∷ []) o) (ap (λ (r : ℤ × Oid). r.1) same) (Contains-push middle (get_or rows i d).1)
        ]);
  }

  equal_side : (o : Ordering) → o ≢ Less → ordering_index o ≤ 1 → o ≡ Equal
  equal_side Less none low = absurd (none refl)
  equal_side Equal none low = refl
  equal_side Greater none low = absurd (omega (arith, low))

  -- behind one that isn't there are none
  pub run_ends : (rows : List (ℤ × Oid)) (old new : List Oid) (i : ℕ) (d : ℤ × Oid) → i < length rows → is_eq (side_of number (get_or rows i d)) ≡ false
      → IsFromNumber number rows → TakesRun (take i rows) number old new → TakesRun rows number old new
  run_ends rows old new i d within other from so_far = record {
    kept = so_far.kept;
    taken = λ oid at. elim (cases_lt at.0 i) [
      | inl early ↦ so_far.taken oid (at.0, omega (arith, early, length-take-le i rows (omega (arith, within))), get_or-take i rows at.0 (number, oid) early ∙ at.2)
      | inr late ↦
          let up = from.rise i at.0 (number, oid) late at.1 in
          let one = own_side oid (get_or rows at.0 (number, oid)) at.2 in
          let here = get_or_default rows i d (number, oid) within in
          let equal = equal_side (side_of number (get_or rows i (number, oid))) (from.none_before i (number, oid) within) (omega (arith, up, one)) in
          let own : is_eq (side_of number (get_or rows i d)) ≡ true = ap (λ (r : ℤ × Oid). is_eq (side_of number r)) here ∙ ap is_eq equal in
          absurd (true≢false (sym own ∙ other))
    ];
  }

  pub run_all : (rows : List (ℤ × Oid)) (old new : List Oid) (i : ℕ) → length rows ≤ i → TakesRun (take i rows) number old new → TakesRun rows number old new
  run_all rows old new i past so_far = subst (λ (l : List (ℤ × Oid)). TakesRun l number old new) (take_all i rows past) so_far
