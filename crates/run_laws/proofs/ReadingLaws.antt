-- Each script has a list of parts, since it can be told whether bytes are blank.
use Rattle.std.proofs.Common.{◌≡◌, ℕ, ◌≤◌, ◌⊎◌, inl, inr, List, [], ◌∷◌, ◌++◌, length, map, zero, suc, refl, sym, ap, subst, arith}
use Rattle.std.proofs.lemmas.Bool.{cases_Bool, cases_eq, or_from}
use Rattle.std.proofs.lemmas.List.{append_assoc, append-nil}
use Rattle.lorel_lex.specs.Scan.{IsScript}
use Rattle.lorel_lex.specs.Gaps.{is_blank, IsOnOneLine, IsGap, nothing, blank, comment, IsBlank, begins_comment}
use Rattle.lorel_lex.proofs.ScanLaws.{some_cut}
use Rattle.lorel_lex.proofs.GapLaws.{IsGap-append, begins_comment-true, not_blank}
use Rattle.lore_run.specs.Runs.{ScriptPart, chunk, rest, HasParts}
use Rattle.run_laws.specs.Laws.{HasSomeReading}

-- bytes are blank, or they aren't
abbrev IsTold : List ℕ → Type 0
IsTold bytes = IsBlank bytes ⊎ (IsBlank bytes → ⊥)

one_more : (body : List ℕ) (byte : ℕ) → IsOnOneLine body → (byte ≡ 10 → ⊥) → IsOnOneLine (body ++ byte ∷ [])
one_more [] byte line other = (other, tt)
one_more (first ∷ body) byte line other = (line.0, one_more body byte line.1 other)

-- behind a gap and the two `-` of a comment, some of which is read
told_comment : (gap body bytes : List ℕ) → IsGap gap → IsOnOneLine body
    → ((front left : List ℕ) → length left ≤ length bytes → IsGap front → IsTold (front ++ left))
    → IsTold (gap ++ 45 ∷ 45 ∷ (body ++ bytes))
told_comment gap body [] g line more = inl (record {
  gap = gap;
  last = 45 ∷ 45 ∷ (body ++ []);
  parts = refl;
  dropped = g;
  ended = inr (body ++ [], refl, subst IsOnOneLine (sym (append-nil body)) line);
})
told_comment gap body (byte ∷ bytes) g line more = elim (cases_eq byte 10) [
  | inl ends ↦
      let front = gap ++ 45 ∷ 45 ∷ (body ++ 10 ∷ []) in
      let piece = IsGap-append (45 ∷ 45 ∷ (body ++ 10 ∷ [])) g (comment body [] line nothing) in
      let whole : front ++ bytes ≡ gap ++ 45 ∷ 45 ∷ (body ++ 10 ∷ bytes) = simp append_assoc in
      let told = subst IsTold whole (more front bytes (omega arith) piece) in
      subst (λ (b : ℕ). IsTold (gap ++ 45 ∷ 45 ∷ (body ++ b ∷ bytes))) (sym ends) told
  | inr other ↦
      let told = told_comment gap (body ++ byte ∷ []) bytes g (one_more body byte line other)
      (λ front left shorter f. more front left (omega arith) f) in
      subst (λ (l : List ℕ). IsTold (gap ++ 45 ∷ 45 ∷ l)) (append_assoc body (byte ∷ []) bytes) told
]

-- behind a gap
told_behind : (n : ℕ) (gap bytes : List ℕ) → length bytes ≤ n → IsGap gap → IsTold (gap ++ bytes)
told_behind n gap [] left g = inl (record { gap = gap; last = []; parts = refl; dropped = g; ended = inl refl })
told_behind zero gap (byte ∷ bytes) left g = absurd (omega arith)
told_behind (suc n) gap (byte ∷ bytes) left g = elim (cases_Bool (is_blank byte)) [
  | inl white ↦
      let piece = IsGap-append (byte ∷ []) g (blank byte [] white nothing) in
      subst IsTold (append_assoc gap (byte ∷ []) bytes) (told_behind n (gap ++ byte ∷ []) bytes (omega arith) piece)
  | inr plain ↦ elim (cases_Bool (begins_comment (byte ∷ bytes))) [
    | inr other ↦ inr (not_blank gap (byte ∷ bytes) g (or_from (is_blank byte) (begins_comment (byte ∷ bytes)) plain other) (omega arith))
    | inl dashes ↦
        let (more, parts) = begins_comment-true (byte ∷ bytes) dashes in
        let shorter = ap length parts in
        subst (λ (l : List ℕ). IsTold (gap ++ l)) (sym parts)
        (told_comment gap [] more g tt (λ front behind less f. told_behind n front behind (omega arith) f))
  ]
]

told : (bytes : List ℕ) → IsTold bytes
told bytes = told_behind (length bytes) [] bytes (omega arith) nothing

listed : (script behind : List ℕ) (chunks : List (List ℕ)) → IsScript script chunks behind → IsTold behind
    → (parts : List ScriptPart) × HasParts script parts
listed script behind chunks cut (inl blank') = (map chunk chunks, record { chunks = chunks; behind = behind; cut = cut; listed = inl (blank', refl) })
listed script behind chunks cut (inr filled) =
    (map chunk chunks ++ rest ∷ [], record { chunks = chunks; behind = behind; cut = cut; listed = inr (filled, refl) })

pub some_reading : HasSomeReading
some_reading script = let (chunks, behind, cut) = some_cut script in listed script behind chunks cut (told behind)
