-- Lines that are made from those before them, one more.
use Rattle.std.proofs.Common.{◌≡◌, ℕ, ◌+◌, inl, inr, List, [], ◌∷◌, ◌++◌, take, Some, sym, ap, ◌∙◌, subst, arith}
use Rattle.std.proofs.Common.{length-append}
use Rattle.std.specs.List.{slice_get}
use Rattle.std.proofs.lemmas.Bool.{cases_lt}
use Rattle.std.proofs.lemmas.List.{take_at, take-append-le}
use Rattle.list_laws.proofs.PlaceLaws.{slice_get-append_left, slice_get-push}
use Rattle.dataguide.specs.Guides.{GuideGraph}
use Rattle.guide_query.specs.Types.{Origin}
use Rattle.guide_query.specs.inside.Written.{size_at, origin_at, node_line, AreWritten}

module _ (guide : GuideGraph) (labels : List (List ℕ)) (origins : List Origin) where
  grown : (p : ℕ) (lines : List (List ℕ)) (line : List ℕ) → AreWritten guide labels origins p lines
      → line ≡ node_line guide labels lines (origin_at origins p) (size_at guide.nodes p)
      → AreWritten guide labels origins (p + 1) (lines ++ line ∷ [])
  grown p lines line before is = record {
    long = omega (arith, length-append lines (line ∷ []), before.long);
    each = λ k less. elim (cases_lt k p) [
      | inl early ↦ (
          let front : take k (lines ++ line ∷ []) ≡ take k lines =
          take-append-le k lines (line ∷ []) (omega (arith, early, before.long)) in
          slice_get-append_left lines (line ∷ []) k (node_line guide labels (take k lines) (origin_at origins k)
          (size_at guide.nodes k)) (before.each k early)
          ∙ ap (λ (l : List (List ℕ)). Some (node_line guide labels l (origin_at origins k) (size_at guide.nodes k)))
          (sym front))
      | inr late ↦ (
          let here : k ≡ p = omega (arith, late, less) in
          let last : slice_get (lines ++ line ∷ []) p ≡ Some line =
          subst (λ (n : ℕ). slice_get (lines ++ line ∷ []) n ≡ Some line) before.long (slice_get-push lines line) in
          let front : take p (lines ++ line ∷ []) ≡ lines = take_at lines (line ∷ []) p before.long in
          let whole : slice_get (lines ++ line ∷ []) p
          ≡ Some (node_line guide labels (take p (lines ++ line ∷ [])) (origin_at origins p) (size_at guide.nodes p)) =
          last ∙ ap Some is
          ∙ ap (λ (l : List (List ℕ)). Some (node_line guide labels l (origin_at origins p) (size_at guide.nodes p)))
          (sym front) in
          subst (λ (n : ℕ). slice_get (lines ++ line ∷ []) n
          ≡ Some (node_line guide labels (take n (lines ++ line ∷ [])) (origin_at origins n)
          (size_at guide.nodes n)))
          (sym here) whole)
    ];
  }

  pub written-more : (p : ℕ) (lines new seen : List (List ℕ)) (line : List ℕ) (origin : Origin) (size : ℕ)
      → AreWritten guide labels origins p lines
      → seen ≡ lines → origin ≡ origin_at origins p → size ≡ size_at guide.nodes p
      → line ≡ node_line guide labels seen origin size
      → new ≡ lines ++ line ∷ [] → AreWritten guide labels origins (p + 1) new
  written-more p lines new seen line origin size before same from sized is pushed =
      subst (λ (l : List (List ℕ)). AreWritten guide labels origins (p + 1) l) (sym pushed)
      (grown p lines line before (subst
      (λ (l : List (List ℕ)). line ≡ node_line guide labels l (origin_at origins p) (size_at guide.nodes p)) same
      (subst (λ (o : Origin). line ≡ node_line guide labels seen o (size_at guide.nodes p)) from
      (subst (λ (s : ℕ). line ≡ node_line guide labels seen origin s) sized is))))
