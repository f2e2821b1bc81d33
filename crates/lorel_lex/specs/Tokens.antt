-- The tokens or the fault of a chunk.
use Rattle.std.specs.Prelude.{◌≡◌, ℕ, ◌+◌, ◌<◌, ◌≤◌, ◌^◌, ◌⊎◌, Bool, false, ◌&&◌, ◌==◌, List, [], ◌∷◌, ◌++◌}
use Rattle.std.specs.Prelude.{length, Result, Ok, Err, FitsSigned, IsUtf8}
use Rattle.std.specs.Int.{w64}
use Rattle.std.specs.Char.{is_ascii_digit}
use Rattle.lorel_lex.specs.Types.{WORD_BYTES, TEXT_BYTES, Token, Kind, Word, Wild, Number, Local}
use Rattle.lorel_lex.specs.Types.{Chars, Quoted, LexFault, BadToken, RealRefused, NumberRange}
use Rattle.lorel_lex.specs.Types.{TextTooLong, NoMemory}
use Rattle.lorel_lex.specs.Gaps.{IsGap, IsBlank, begins_gap}
use Rattle.lorel_tokens.specs.Shapes.{begins, IsToken}

-- of all fronts of these bytes, none longer than the text is a token
abbrev pub IsLongest : List ℕ → List ℕ → Type 0
IsLongest text rest = (front back : List ℕ) (kind : Kind) → text ++ rest ≡ front ++ back
    → IsToken front back kind → length front ≤ length text

-- the longest token that starts a list of bytes, what it stands for, and the rest behind it
pub record IsFirst (bytes : List ℕ) (kind : Kind) (rest : List ℕ) : Type 0 where
  pub text : List ℕ
  pub parts : bytes ≡ text ++ rest
  pub token : IsToken text rest kind
  pub longest : IsLongest text rest

-- a `.` and a digit
abbrev pub begins_fraction : List ℕ → Bool
begins_fraction [] = false
begins_fraction (byte ∷ bytes) = (byte == 46) && begins is_ascii_digit bytes

-- no fraction follows a number
abbrev pub IsWhole : Kind → List ℕ → Type 0
IsWhole (Number number) rest = begins_fraction rest ≡ false
IsWhole _ rest = Unit {0}

-- a number is one of 64 bits with a sign, a local one of 32 bits without
abbrev pub IsInRange : Kind → Type 0
IsInRange (Number number) = FitsSigned w64 number
IsInRange (Local local) = local < 2 ^ 32
IsInRange _ = Unit {0}

-- identifiers, patterns and labels have at most 255 bytes, texts at most 4,096, both behind their escapes
abbrev pub IsShort : Kind → Type 0
IsShort (Word word) = length word ≤ WORD_BYTES
IsShort (Wild pattern) = length pattern ≤ WORD_BYTES
IsShort (Chars contents) = length contents ≤ TEXT_BYTES
IsShort (Quoted label) = length label ≤ WORD_BYTES
IsShort _ = Unit {0}

-- what a token keeps where it hasn't this fault
abbrev pub Keeps : LexFault → Kind → List ℕ → Type 0
Keeps BadToken kind rest = Unit {0}
Keeps RealRefused kind rest = IsWhole kind rest
Keeps NumberRange kind rest = IsInRange kind
Keeps TextTooLong kind rest = IsShort kind
Keeps NoMemory kind rest = Unit {0}

-- of two faults at one place that with the smaller number counts
abbrev pub fault_number : LexFault → ℕ
fault_number BadToken = 1
fault_number RealRefused = 2
fault_number NumberRange = 3
fault_number TextTooLong = 4
fault_number NoMemory = 5

-- no front of the bytes is a token
abbrev pub BeginsNone : List ℕ → Type 0
BeginsNone bytes = (text rest : List ℕ) (kind : Kind) → bytes ≡ text ++ rest → IsToken text rest kind → ⊥

-- the longest token that starts the bytes has this fault, and none with a smaller number
pub record Breaks (fault : LexFault) (bytes : List ℕ) : Type 0 where
  pub kind : Kind
  pub rest : List ℕ
  pub first : IsFirst bytes kind rest
  pub broken : Keeps fault kind rest → ⊥
  pub least : (other : LexFault) → fault_number other < fault_number fault → Keeps other kind rest

-- the fault at the place where these bytes stand
abbrev pub IsFaultAt : LexFault → List ℕ → Type 0
IsFaultAt fault bytes = ((fault ≡ BadToken) × BeginsNone bytes) ⊎ Breaks fault bytes

-- a place where a token has to start: blank bytes and comments before it are dropped
pub record IsPlace (bytes gap place : List ℕ) : Type 0 where
  pub parts : bytes ≡ gap ++ place
  pub dropped : IsGap gap
  pub outside : begins_gap place ≡ false
  pub some : 0 < length place

-- the first token of the bytes from a place on, which has no fault, and the rest behind it
pub record IsNext (at : ℕ) (bytes : List ℕ) (token : Token) (rest : List ℕ) : Type 0 where
  pub gap : List ℕ
  pub place : List ℕ
  pub stands : IsPlace bytes gap place
  pub first : IsFirst place token.kind rest
  pub kept : (fault : LexFault) → Keeps fault token.kind rest
  pub starts : token.start ≡ at + length gap
  pub ends : token.end ≡ token.start + length first.text

-- the bytes from a place on have these tokens, and else only blank bytes and comments
abbrev pub AreTokensFrom : ℕ → List ℕ → List Token → Type 0
AreTokensFrom at bytes [] = IsBlank bytes
AreTokensFrom at bytes (token ∷ tokens) = (rest : List ℕ) × IsNext at bytes token rest
    × AreTokensFrom token.end rest tokens

-- the tokens of a chunk, which is UTF-8
pub record AreTokens (chunk : List ℕ) (tokens : List Token) : Type 0 where
  pub utf8 : IsUtf8 chunk
  pub all : AreTokensFrom 0 chunk tokens

-- the bytes from a place on have these tokens without a fault, and the next place has this fault
abbrev pub IsFaultBehind : ℕ → List ℕ → List Token → LexFault → Type 0
IsFaultBehind at bytes [] fault = (gap place : List ℕ) × IsPlace bytes gap place × IsFaultAt fault place
IsFaultBehind at bytes (token ∷ tokens) fault = (rest : List ℕ) × IsNext at bytes token rest
    × IsFaultBehind token.end rest tokens fault

-- the fault of a chunk: BadToken where it isn't UTF-8, else the fault at the first place that has one
abbrev pub HasFault : List ℕ → LexFault → Type 0
HasFault chunk fault = ((fault ≡ BadToken) × (IsUtf8 chunk → ⊥))
    ⊎ (IsUtf8 chunk × (tokens : List Token) × IsFaultBehind 0 chunk tokens fault)

-- the outcome of a chunk: its tokens or its fault
abbrev pub IsOutcome : List ℕ → Result (List Token) LexFault → Type 0
IsOutcome chunk (Ok tokens) = AreTokens chunk tokens
IsOutcome chunk (Err fault) = HasFault chunk fault

-- no chunk has two outcomes: it has one list of tokens or one fault, and not both
abbrev pub HasOneOutcome : Type 0
HasOneOutcome = (chunk : List ℕ) (outcome other : Result (List Token) LexFault) → IsOutcome chunk outcome
    → IsOutcome chunk other → outcome ≡ other

-- each chunk has a list of tokens or a fault
abbrev pub HasSomeOutcome : Type 0
HasSomeOutcome = (chunk : List ℕ) → (outcome : Result (List Token) LexFault) × IsOutcome chunk outcome
