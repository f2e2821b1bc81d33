-- What a token is: the form of its bytes, and what they stand for.
use Rattle.std.specs.Prelude.{◌≡◌, ℕ, ◌≤◌, Bool, false, ◌||◌, ◌==◌, List, [], ◌∷◌, length, codes, IsTrue}
use Rattle.std.specs.List.{list_all, list_any}
use Rattle.std.specs.Str.Parse.{IsNumeral, digits_value}
pub use Rattle.lore_base.specs.Comparisons.{IsNumber}
use Rattle.lore_base.specs.Quotes.{IsQuoted}
use Rattle.lore_base.specs.Names.{is_word_start, is_word_byte, IsIdentifier}
use Rattle.lorel_tokens.specs.Types.{Kind, Word, Wild, PathOf, Number, Local, Chars, Quoted, Symbol, Sign}
use Rattle.lorel_tokens.specs.Types.{LeftBrace, RightBrace, LeftParen, RightParen, Comma, Dot, Colon, Assign}
use Rattle.lorel_tokens.specs.Types.{Equal, SameAs, NotEqual, Less, LessEqual, Greater, GreaterEqual, PlusAssign}
use Rattle.lorel_tokens.specs.Types.{MinusAssign, Question, Star, Plus, Bar, Hash, At}

-- a letter, an underscore or a `%`
abbrev pub is_pattern_start : ℕ → Bool
is_pattern_start byte = is_word_start byte || (byte == 37)

-- a letter, a digit, an underscore or a `%`
abbrev pub is_pattern_byte : ℕ → Bool
is_pattern_byte byte = is_word_byte byte || (byte == 37)

-- letters, digits, underscores and `%`, one `%` or more, and no digit first
abbrev pub IsPattern : List ℕ → Type 0
IsPattern [] = ⊥
IsPattern (first ∷ others) = IsTrue (is_pattern_start first) × IsTrue (list_all is_pattern_byte others)
    × IsTrue (list_any (λ byte. byte == 37) (first ∷ others))

-- a `&` and one decimal digit or more, and the number that they write
abbrev pub IsLocal : List ℕ → ℕ → Type 0
IsLocal text local = (digits : List ℕ) × IsNumeral 10 digits × (text ≡ 38 ∷ digits)
    × (local ≡ digits_value 10 digits)

-- how each symbol is written
abbrev pub sign_text : Sign → List ℕ
sign_text LeftBrace = codes "{"
sign_text RightBrace = codes "}"
sign_text LeftParen = codes "("
sign_text RightParen = codes ")"
sign_text Comma = codes ","
sign_text Dot = codes "."
sign_text Colon = codes ":"
sign_text Assign = codes ":="
sign_text Equal = codes "="
sign_text SameAs = codes "=="
sign_text NotEqual = codes "!="
sign_text Less = codes "<"
sign_text LessEqual = codes "<="
sign_text Greater = codes ">"
sign_text GreaterEqual = codes ">="
sign_text PlusAssign = codes "+="
sign_text MinusAssign = codes "-="
sign_text Question = codes "?"
sign_text Star = codes "*"
sign_text Plus = codes "+"
sign_text Bar = codes "|"
sign_text Hash = codes "#"
sign_text At = codes "@"

-- the first of the bytes, if there is one, passes the test
abbrev pub begins : (ℕ → Bool) → List ℕ → Bool
begins test [] = false
begins test (byte ∷ bytes) = test byte

-- these bytes are a token that stands for the kind, where those others follow; lengths and ranges are left
-- aside
abbrev pub IsToken : List ℕ → List ℕ → Kind → Type 0
IsToken text rest (Word word) = IsIdentifier text × (word ≡ text)
IsToken text rest (Wild pattern) = IsPattern text × (pattern ≡ text)
IsToken text rest PathOf = (text ≡ codes "path-of") × (begins is_pattern_byte rest ≡ false)
IsToken text rest (Number number) = IsNumber text number
IsToken text rest (Local local) = IsLocal text local
IsToken text rest (Chars contents) = IsQuoted 34 text contents
IsToken text rest (Quoted label) = IsQuoted 39 text label × (1 ≤ length label)
IsToken text rest (Symbol sign) = text ≡ sign_text sign
