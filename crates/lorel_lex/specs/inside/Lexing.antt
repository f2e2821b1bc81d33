-- What the functions that read one token promise.
use Rattle.std.specs.Prelude.{◌≡◌, ◌≢◌, ℕ, ◌<◌, ◌≤◌, Bool, true, false, ◌&&◌, not, if◌then◌else◌, ◌==◌, List}
use Rattle.std.specs.Prelude.{[], ◌∷◌, ◌++◌, length, take, drop, slice_index, codes, Option, Some, None}
use Rattle.std.specs.Prelude.{Result, Ok, Err}
use Rattle.std.specs.List.{list_all, list_any, starts_with}
use Rattle.std.specs.Char.{is_ascii_digit}
use Rattle.lorel_lex.specs.Types.{Kind, Symbol, Sign, LeftBrace, RightBrace, LeftParen, RightParen}
use Rattle.lorel_lex.specs.Types.{Comma, Dot, Colon, Assign, Equal, SameAs, NotEqual, Less, LessEqual}
use Rattle.lorel_lex.specs.Types.{Greater, GreaterEqual, PlusAssign, MinusAssign, Question, Star, Plus, Bar}
use Rattle.lorel_lex.specs.Types.{Hash, At, LexFault, BadToken, TextTooLong, NoMemory, ByteClass, Letter}
use Rattle.lorel_lex.specs.Types.{Digit, Minus, Ampersand, DoubleQuote, SingleQuote, Other, WORD_BYTES}
use Rattle.lorel_lex.specs.declared.words.Letters.{Letters}
use Rattle.lorel_lex.specs.declared.words.Letters.TheVariants.{Identifier, Pattern, PathWord}
use Rattle.lore_base.specs.Quotes.{IsContents, IsQuoted}
use Rattle.lorel_tokens.specs.Shapes.{is_pattern_start, is_pattern_byte, begins, IsToken}
use Rattle.lorel_lex.specs.Tokens.{IsFirst, Keeps, IsFaultAt}

-- which tokens a byte may begin
abbrev pub class_of : ℕ → ByteClass
class_of byte =
    if is_pattern_start byte then Letter
    else (if is_ascii_digit byte then Digit
    else (if byte == 45 then Minus
    else (if byte == 38 then Ampersand
    else (if byte == 34 then DoubleQuote
    else (if byte == 39 then SingleQuote
    else Other)))))

-- the front of this many bytes is the longest token
pub record IsShape (bytes : List ℕ) (kind : Kind) (len : ℕ) : Type 0 where
  pub within : len ≤ length bytes
  pub first : IsFirst bytes kind (drop len bytes)

-- what a function that reads the token at the front ensures
abbrev pub ReadsFirst : List ℕ → Result (Kind × ℕ) LexFault → Type 0
ReadsFirst bytes (Ok found) = IsShape bytes found.0 found.1
    × ((fault : LexFault) → Keeps fault found.0 (drop found.1 bytes))
ReadsFirst bytes (Err fault) = fault ≢ NoMemory → IsFaultAt fault bytes

-- this many bytes at the front pass the test, and the next one, if there is one, doesn't
pub record EndsRun (test : ℕ → Bool) (bytes : List ℕ) (len : ℕ) : Type 0 where
  pub within : len ≤ length bytes
  pub passed : list_all test (take len bytes) ≡ true
  pub stops : len < length bytes → test (slice_index bytes len) ≡ false

-- `path-of`, and behind it no byte of a pattern
abbrev pub begins_path_of : List ℕ → Bool
begins_path_of bytes = starts_with (λ a b. a == b) bytes (codes "path-of")
    && not (begins is_pattern_byte (drop 7 bytes))

-- which of the bytes that begin with a letter, an underscore or a `%` are the token: `path-of`, or all that
-- may stand in a pattern, which are one where a `%` is among them and an identifier where none is
abbrev pub FindsLetters : List ℕ → Letters → Type 0
FindsLetters bytes (Identifier len) = (begins_path_of bytes ≡ false) × EndsRun is_pattern_byte bytes len
    × (list_any (λ byte. byte == 37) (take len bytes) ≡ false)
FindsLetters bytes (Pattern len) = (begins_path_of bytes ≡ false) × EndsRun is_pattern_byte bytes len
    × (list_any (λ byte. byte == 37) (take len bytes) ≡ true)
FindsLetters bytes PathWord = begins_path_of bytes ≡ true

-- the bytes as a text, or what is wrong: they are more than a word may have
abbrev pub Shortens : List ℕ → Result (List ℕ) LexFault → Type 0
Shortens bytes (Ok text) = (text ≡ bytes) × (length bytes ≤ WORD_BYTES)
Shortens bytes (Err fault) = fault ≢ NoMemory → (fault ≡ TextTooLong) × (WORD_BYTES < length bytes)

-- the symbol that is this byte and a `=`
abbrev pub paired : ℕ → Option Sign
paired byte =
    if byte == 58 then Some Assign
    else (if byte == 61 then Some SameAs
    else (if byte == 33 then Some NotEqual
    else (if byte == 60 then Some LessEqual
    else (if byte == 62 then Some GreaterEqual
    else (if byte == 43 then Some PlusAssign
    else (if byte == 45 then Some MinusAssign
    else None))))))

-- the symbol that is this byte
abbrev pub single : ℕ → Option Sign
single byte =
    if byte == 123 then Some LeftBrace
    else (if byte == 125 then Some RightBrace
    else (if byte == 40 then Some LeftParen
    else (if byte == 41 then Some RightParen
    else (if byte == 44 then Some Comma
    else (if byte == 46 then Some Dot
    else (if byte == 58 then Some Colon
    else (if byte == 61 then Some Equal
    else (if byte == 60 then Some Less
    else (if byte == 62 then Some Greater
    else (if byte == 63 then Some Question
    else (if byte == 42 then Some Star
    else (if byte == 43 then Some Plus
    else (if byte == 124 then Some Bar
    else (if byte == 35 then Some Hash
    else (if byte == 64 then Some At
    else None)))))))))))))))

-- the symbol of two bytes that starts the bytes
abbrev pub pair_at : List ℕ → Option Sign
pair_at [] = None
pair_at (byte ∷ []) = None
pair_at (byte ∷ next ∷ bytes) = if next == 61 then paired byte else None

-- no token but a symbol starts the bytes
abbrev pub BeginsSymbol : List ℕ → Type 0
BeginsSymbol bytes = (text rest : List ℕ) (kind : Kind) → bytes ≡ text ++ rest → IsToken text rest kind
    → (sign : Sign) × (kind ≡ Symbol sign)

-- whether a backslash stands right before what follows these bytes; None where a quote among them ends the
-- contents
abbrev pub escaped_after : ℕ → Bool → List ℕ → Option Bool
escaped_after quote escaped [] = Some escaped
escaped_after quote true (byte ∷ bytes) = escaped_after quote false bytes
escaped_after quote false (byte ∷ bytes) = if byte == quote then None
    else escaped_after quote (byte == 92) bytes

-- the quote at this place is the one that ends the contents
pub record ClosesAt (quote : ℕ) (bytes : List ℕ) (at : ℕ) : Type 0 where
  pub within : at < length bytes
  pub inside : escaped_after quote false (take at bytes) ≡ Some false
  pub ended : slice_index bytes at ≡ quote

abbrev pub FindsQuote : ℕ → List ℕ → Option ℕ → Type 0
FindsQuote quote bytes None = (raw back : List ℕ) → bytes ≡ raw ++ quote ∷ back
    → escaped_after quote false raw ≡ Some false → ⊥
FindsQuote quote bytes (Some at) = ClosesAt quote bytes at

-- the first byte that contents stand for, and how many bytes it takes of them
pub record BeginsWith (quote : ℕ) (raw : List ℕ) (byte len : ℕ) : Type 0 where
  pub some : 0 < len
  pub within : len ≤ length raw
  pub whole : (text : List ℕ) → IsContents quote (drop len raw) text → IsContents quote raw (byte ∷ text)
  pub only : (text : List ℕ) → IsContents quote raw text → (rest : List ℕ) × (text ≡ byte ∷ rest)
      × IsContents quote (drop len raw) rest

abbrev pub FindsByte : ℕ → List ℕ → Option (ℕ × ℕ) → Type 0
FindsByte quote raw None = (text : List ℕ) → IsContents quote raw text → ⊥
FindsByte quote raw (Some found) = BeginsWith quote raw found.0 found.1

-- what a function that resolves escapes ensures
abbrev pub Resolves : {X : Type 0} → (X → List ℕ) → ℕ → List ℕ → Result X LexFault → Type 0
Resolves view quote raw (Ok found) = IsContents quote raw (view found)
Resolves view quote raw (Err fault) = fault ≢ NoMemory → (fault ≡ BadToken)
    × ((text : List ℕ) → IsContents quote raw text → ⊥)

-- this many bytes at the front are quoted contents, and no other number of them are
pub record Encloses (quote : ℕ) (bytes contents : List ℕ) (len : ℕ) : Type 0 where
  pub within : len ≤ length bytes
  pub quoted : IsQuoted quote (take len bytes) contents
  pub only : (front back text : List ℕ) → bytes ≡ front ++ back → IsQuoted quote front text
      → length front ≡ len

-- what a function that reads quoted contents ensures
abbrev pub ReadsQuoted : ℕ → List ℕ → Result (List ℕ × ℕ) LexFault → Type 0
ReadsQuoted quote bytes (Ok found) = Encloses quote bytes found.0 found.1
ReadsQuoted quote bytes (Err fault) = fault ≢ NoMemory → (fault ≡ BadToken)
    × ((front back text : List ℕ) → bytes ≡ front ++ back → IsQuoted quote front text → ⊥)
