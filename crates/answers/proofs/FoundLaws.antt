-- Rows that were noted down: those that ascend, one more row, and the answer that they give.
use Rattle.std.proofs.Common.{◌≡◌, ◌≢◌, ℕ, ◌-◌, inl, inr, ◌↔◌, Bool, true, List, [], ◌∷◌, ◌++◌, length, get_or, Some, All, AllPairs, Less, Equal, subst, sym, ap, ◌∙◌, arith}
use Rattle.std.specs.List.{Contains, slice_get}
use Rattle.std.specs.Cmp.{Equal-is}
use Rattle.std.specs.Cmp.Lexicographic.{pointwise}
use Rattle.std.proofs.lemmas.Bool.{cases_lt}
use Rattle.std.proofs.lemmas.List.Elements.{All-contains_itself, All-weaker, Contains-append_left, Contains-push, Contains-push_cases}
use Rattle.std.proofs.lemmas.List.Quantifiers.{all_pairs_push}
use Rattle.std.proofs.lemmas.Option.{get_or_from_slice_get, slice_get_within}
use Rattle.list_laws.proofs.AscentLaws.{never_less}
use Rattle.lorel_bound.specs.CellOrder.{same_cell, tied_rows, row_cmp, rows_total, rows_ties}
use Rattle.answers.specs.Types.{Cell}
use Rattle.lorel_bound.specs.Answers.{AreAscendingRows, IsTooMuch}
use Rattle.answers.specs.Asked.{AreRows, AreTooMany}
use Rattle.answers.specs.inside.Finding.{Finds}

-- ---- rows that are tested as equal are one
pub equal_rows : (a b : List Cell) → pointwise same_cell a b ≡ true → a ≡ b
equal_rows a b same = tied_rows a b ((Equal-is (row_cmp a b)).0 (sym (rows_ties a b) ∙ same))

-- ---- rows that ascend
-- a row that compares as equal to the last one is there
pub contains_last : (rows : List (List Cell)) (last row : List Cell) → slice_get rows (length rows - 1) ≡ Some last → row_cmp last row ≡ Equal → Contains rows row
contains_last rows last row is tied =
    let same : last ≡ row = tied_rows last row tied in
    (length rows - 1, slice_get_within rows (length rows - 1) last is, get_or_from_slice_get rows (length rows - 1) last row is ∙ same)

-- a row that comes behind the last one comes behind all
pub ascend_push : (rows : List (List Cell)) (last row : List Cell) → AreAscendingRows rows → slice_get rows (length rows - 1) ≡ Some last
    → row_cmp last row ≡ Less → AreAscendingRows (rows ++ row ∷ [])
ascend_push rows last row ascend is behind =
    all_pairs_push (λ a b. row_cmp a b ≡ Less) rows row ascend (λ k d within.
    let end : get_or rows (length rows - 1) d ≡ last = get_or_from_slice_get rows (length rows - 1) last d is in
    elim (cases_lt k (length rows - 1)) [
      | inl early ↦
          let before : row_cmp (get_or rows k d) last ≡ Less =
          subst (λ (r : List Cell). row_cmp (get_or rows k d) r ≡ Less) end (ascend k (length rows - 1) d early (omega (arith, within))) in
          rows_total.trans (get_or rows k d) last row before behind
      | inr late ↦
          let here : k ≡ length rows - 1 = omega (arith, within, late) in
          subst (λ (r : List Cell). row_cmp r row ≡ Less) (sym (ap (λ (n : ℕ). get_or rows n d) here ∙ end)) behind
    ])

-- none is there twice
pub apart_rows : (rows : List (List Cell)) → AreAscendingRows rows → AllPairs (λ a b. a ≢ b) rows
apart_rows rows ascend i j d low within same =
    never_less row_cmp rows_total (get_or rows j d) (subst (λ (r : List Cell). row_cmp r (get_or rows j d) ≡ Less) same (ascend i j d low within))

-- ---- one row more
pub finds_one : (row : List Cell) (old pushed new : List (List Cell)) (cut : Bool) → pushed ≡ old ++ row ∷ []
    → ((found : List Cell) → Contains new found ↔ Contains pushed found) → (cut ≡ true → AreAscendingRows new × IsTooMuch new)
    → Finds (λ found. found ≡ row) old new cut
finds_one row old pushed new cut is members many = record {
  kept = λ found h. (members found).1 (subst (λ (rows : List (List Cell)). Contains rows found) (sym is) (Contains-append_left old (row ∷ []) found h));
  sound = λ found h.
      elim (Contains-push_cases old row found (subst (λ (rows : List (List Cell)). Contains rows found) is ((members found).0 h))) [
        | inl before ↦ inl before
        | inr same ↦ inr (sym same)
      ];
  complete = λ whole found same. (members found).1 (subst (λ (rows : List (List Cell)). Contains rows found) (sym is) (subst (Contains (old ++ row ∷ [])) (sym same) (Contains-push old row)));
  many = many;
}

-- ---- the answer
pub too_many : (found rows : List (List Cell)) → ((row : List Cell) → Contains rows row ↔ Contains found row) → AreAscendingRows rows → IsTooMuch rows
    → AreTooMany (Contains found)
too_many found rows members ascend many = record {
  rows = rows;
  apart = apart_rows rows ascend;
  asked = All-weaker (Contains rows) (Contains found) (λ row h. (members row).0 h) rows (All-contains_itself rows);
  many = many;
}

pub all_rows : (found rows : List (List Cell)) → ((row : List Cell) → Contains rows row ↔ Contains found row) → AreAscendingRows rows → (IsTooMuch rows → ⊥)
    → AreRows (Contains found) rows
all_rows found rows members ascend few = record { ascending = ascend; exact = members; few = few }

-- what was asked for, once all of it was found and nothing else
pub asked_rows : (P Q : List Cell → Type 0) (rows : List (List Cell)) → ((row : List Cell) → P row ↔ Q row) → AreRows P rows → AreRows Q rows
asked_rows P Q rows same all = record {
  ascending = all.ascending;
  exact = λ row. (λ h. (same row).0 ((all.exact row).0 h), λ h. (all.exact row).1 ((same row).1 h));
  few = all.few;
}

-- too many of some rows are too many of whatever asks for more
pub too_many_asked : (P Q : List Cell → Type 0) → ((row : List Cell) → P row → Q row) → AreTooMany P → AreTooMany Q
too_many_asked P Q wider many = record {
  rows = many.rows;
  apart = many.apart;
  asked = All-weaker P Q wider many.rows many.asked;
  many = many.many;
}
