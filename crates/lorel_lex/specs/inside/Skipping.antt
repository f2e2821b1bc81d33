-- What is dropped before a token.
use Rattle.std.specs.Prelude.{◌≡◌, ℕ, ◌<◌, ◌≤◌, false, List, length, take, drop, Option, Some, None}
use Rattle.std.specs.Prelude.{slice_index}
use Rattle.lorel_lex.specs.Gaps.{IsOnOneLine, IsGap, IsBlank, begins_gap}

-- the line feed at this place is the first
pub record EndsLine (bytes : List ℕ) (at : ℕ) : Type 0 where
  pub within : at < length bytes
  pub before : IsOnOneLine (take at bytes)
  pub ended : slice_index bytes at ≡ 10

-- the place of the first line feed
abbrev pub FindsLine : List ℕ → Option ℕ → Type 0
FindsLine bytes None = IsOnOneLine bytes
FindsLine bytes (Some at) = EndsLine bytes at

-- this many bytes at the front are dropped: a gap up to a byte that begins none, or all
pub record SkipsGap (bytes : List ℕ) (len : ℕ) : Type 0 where
  pub within : len ≤ length bytes
  pub dropped : len < length bytes → IsGap (take len bytes)
  pub outside : len < length bytes → begins_gap (drop len bytes) ≡ false
  pub blank : len ≡ length bytes → IsBlank bytes
