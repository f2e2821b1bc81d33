-- Blank bytes and comments, which part tokens.
use Rattle.std.specs.Prelude.{◌≡◌, ◌≢◌, ℕ, Bool, true, false, ◌&&◌, ◌||◌, ◌==◌, List, [], ◌∷◌, ◌++◌, ◌⊎◌}
use Rattle.std.specs.List.{AllByRecursion}

-- space, tab, line feed, carriage return
abbrev pub is_blank : ℕ → Bool
is_blank byte = (byte == 32) || ((byte == 9) || ((byte == 10) || (byte == 13)))

-- no line feed among the bytes
abbrev pub IsOnOneLine : List ℕ → Type 0
IsOnOneLine bytes = AllByRecursion (λ byte. byte ≢ 10) bytes

-- blank bytes, and comments with the line feeds that end them: a comment is `--` and what stands behind it on
-- its line
pub data IsGap : List ℕ → Type 0 where
  nothing : IsGap []
  blank : (byte : ℕ) (more : List ℕ) → is_blank byte ≡ true → IsGap more → IsGap (byte ∷ more)
  comment : (body more : List ℕ) → IsOnOneLine body → IsGap more → IsGap (45 ∷ 45 ∷ (body ++ 10 ∷ more))

-- nothing, or a comment that no line feed ends
abbrev pub IsLastComment : List ℕ → Type 0
IsLastComment last = (last ≡ []) ⊎ ((body : List ℕ) × (last ≡ 45 ∷ 45 ∷ body) × IsOnOneLine body)

-- only blank bytes and comments; the last comment may go to the end
pub record IsBlank (bytes : List ℕ) : Type 0 where
  pub gap : List ℕ
  pub last : List ℕ
  pub parts : bytes ≡ gap ++ last
  pub dropped : IsGap gap
  pub ended : IsLastComment last

-- `--` opens a comment, also before a digit
abbrev pub begins_comment : List ℕ → Bool
begins_comment [] = false
begins_comment (byte ∷ []) = false
begins_comment (byte ∷ next ∷ bytes) = (byte == 45) && (next == 45)

-- a blank byte or a comment stands at the front
abbrev pub begins_gap : List ℕ → Bool
begins_gap [] = false
begins_gap (byte ∷ bytes) = is_blank byte || begins_comment (byte ∷ bytes)
