-- How tokens are written, and which tokens bytes have.
use Rattle.std.specs.Prelude.{◌≡◌, ℕ, ◌<◌, ◌⊎◌, ◌↔◌, Bool, true, List, [], ◌∷◌, ◌++◌, map, codes, IsTrue}
use Rattle.std.specs.Prelude.{IsUtf8, All}
use Rattle.std.specs.List.{flat_map, list_all, join_with_byte}
use Rattle.std.specs.Fmt.{decimal, signed_decimal}
use Rattle.lore_base.specs.Quotes.{in_quotes, IsQuoted}
use Rattle.lorel_lex.specs.Types.{Token, Kind, Word, Wild, PathOf, Number, Local, Chars, Quoted, Symbol}
use Rattle.lorel_lex.specs.Types.{LeftBrace}
use Rattle.lorel_lex.specs.Gaps.{is_blank}
use Rattle.lorel_tokens.specs.Shapes.{sign_text}
use Rattle.lorel_tokens.specs.Forms.{HasForm}
use Rattle.lorel_lex.specs.Tokens.{AreTokens}

-- how a token is written: numbers without leading zeros, texts and quoted labels with their escapes
abbrev pub token_text : Kind → List ℕ
token_text (Word word) = word
token_text (Wild pattern) = pattern
token_text PathOf = codes "path-of"
token_text (Number number) = signed_decimal number
token_text (Local local) = 38 ∷ decimal local
token_text (Chars contents) = in_quotes 34 contents
token_text (Quoted label) = in_quotes 39 label
token_text (Symbol sign) = sign_text sign

-- the text that a token holds, if it holds one, is UTF-8
abbrev pub IsUtf8Token : Kind → Type 0
IsUtf8Token (Word word) = IsUtf8 word
IsUtf8Token (Wild pattern) = IsUtf8 pattern
IsUtf8Token (Chars contents) = IsUtf8 contents
IsUtf8Token (Quoted label) = IsUtf8 label
IsUtf8Token _ = Unit {0}

-- tokens with one space between
abbrev pub line_text : List Kind → List ℕ
line_text kinds = join_with_byte 32 (map token_text kinds)

-- tokens with a space behind each
unfoldable pub spaced : List Kind → List ℕ
spaced kinds = flat_map (λ kind. token_text kind ++ 32 ∷ []) kinds

-- nothing, or a blank byte first
abbrev pub is_apart : List ℕ → Bool
is_apart [] = true
is_apart (byte ∷ bytes) = is_blank byte

-- what may follow a written token: nothing or a blank byte, and behind a `{` anything
abbrev pub MayFollow : Kind → List ℕ → Type 0
MayFollow kind rest = IsTrue (is_apart rest) ⊎ (kind ≡ Symbol LeftBrace)

-- the tokens are written one after another, with blank bytes before, between and behind them
abbrev pub AreWritten : List Kind → List ℕ → Type 0
AreWritten [] bytes = IsTrue (list_all is_blank bytes)
AreWritten (kind ∷ kinds) bytes = (gap rest : List ℕ) × (bytes ≡ gap ++ (token_text kind ++ rest))
    × IsTrue (list_all is_blank gap) × MayFollow kind rest × AreWritten kinds rest

-- the bytes have exactly these tokens
abbrev pub HasKinds : List ℕ → List Kind → Type 0
HasKinds bytes kinds = (tokens : List Token) × AreTokens bytes tokens
    × (map (λ token. token.kind) tokens ≡ kinds)

-- tokens that have their form, and whose texts are UTF-8, are read back where they are written
abbrev pub AreReadBack : Type 0
AreReadBack = (kinds : List Kind) (bytes : List ℕ) → All HasForm kinds → All IsUtf8Token kinds
    → AreWritten kinds bytes
    → HasKinds bytes kinds

-- and so they are with one space between
abbrev pub IsLineReadBack : Type 0
IsLineReadBack = (kinds : List Kind) → All HasForm kinds → All IsUtf8Token kinds
    → HasKinds (line_text kinds) kinds

-- a text in quotes stands for itself, and for no other text
abbrev pub AreQuotesReadBack : Type 0
AreQuotesReadBack = (quote : ℕ) (text other : List ℕ) → quote < 92
    → IsQuoted quote (in_quotes quote text) other ↔ (other ≡ text)
