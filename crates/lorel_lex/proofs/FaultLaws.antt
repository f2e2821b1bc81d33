-- The longest token at the front, and what a fault of it is.
use Rattle.std.proofs.Common.{◌≡◌, ℕ, ◌<◌, ◌≤◌, List, ◌++◌, length, take, drop, Err, refl, sym, ap, ◌∙◌, inl, inr, arith}
use Rattle.std.proofs.lemmas.List.{take-append-drop, length-take-le, take_at, drop_at}
use Rattle.lorel_lex.specs.Types.{Kind, LexFault, BadToken, RealRefused, NumberRange, TextTooLong, NoMemory}
use Rattle.lorel_tokens.specs.Shapes.{IsToken}
use Rattle.lorel_lex.specs.Tokens.{IsWhole, IsInRange, IsShort, Keeps, fault_number, BeginsNone}
use Rattle.lorel_lex.specs.inside.Lexing.{IsShape, ReadsFirst}

-- the same number of bytes at the front of a list are the same bytes
pub same_cut : {A : Type 0} (a b x y : List A) → length a ≡ length b → a ++ x ≡ b ++ y → (a ≡ b) × (x ≡ y)
same_cut a b x y l e = (
  sym (take_at a x (length a) refl) ∙ ap (take (length a)) e ∙ take_at b y (length a) (sym l),
  sym (drop_at a x (length a) refl) ∙ ap (drop (length a)) e ∙ drop_at b y (length a) (sym l),
)

-- no front that is a token is longer
pub shape : (bytes : List ℕ) (kind : Kind) (len : ℕ) → len ≤ length bytes → IsToken (take len bytes) (drop len bytes) kind
    → ((front back : List ℕ) (other : Kind) → bytes ≡ front ++ back → IsToken front back other → length front ≤ len) → IsShape bytes kind len
shape bytes kind len within token most = record {
  within = within;
  first = record {
    text = take len bytes;
    parts = sym (take-append-drop len bytes);
    token = token;
    longest = λ front back other e s.
        let at_most = most front back other (sym (take-append-drop len bytes) ∙ e) s in
        omega (arith, length-take-le len bytes within);
  };
}

-- without a fault
pub kept : (kind : Kind) (rest : List ℕ) → IsWhole kind rest → IsInRange kind → IsShort kind → (fault : LexFault) → Keeps fault kind rest
kept kind rest whole range short BadToken = tt
kept kind rest whole range short RealRefused = whole
kept kind rest whole range short NumberRange = range
kept kind rest whole range short TextTooLong = short
kept kind rest whole range short NoMemory = tt

-- with a fault, and none before it

pub reads_bad : (bytes : List ℕ) → BeginsNone bytes → ReadsFirst bytes (Err BadToken)
reads_bad bytes none free = inl (refl, none)

least_real : (kind : Kind) (rest : List ℕ) (other : LexFault) → fault_number other < 2 → Keeps other kind rest
least_real kind rest BadToken l = tt
least_real kind rest RealRefused l = absurd (omega arith)
least_real kind rest NumberRange l = absurd (omega arith)
least_real kind rest TextTooLong l = absurd (omega arith)
least_real kind rest NoMemory l = tt

pub reads_real : (bytes : List ℕ) (kind : Kind) (len : ℕ) → IsShape bytes kind len → (IsWhole kind (drop len bytes) → ⊥) → ReadsFirst bytes (Err RealRefused)
reads_real bytes kind len s broken free = inr (record {
  kind = kind;
  rest = drop len bytes;
  first = s.first;
  broken = broken;
  least = least_real kind (drop len bytes);
})

least_range : (kind : Kind) (rest : List ℕ) → IsWhole kind rest → (other : LexFault) → fault_number other < 3 → Keeps other kind rest
least_range kind rest whole BadToken l = tt
least_range kind rest whole RealRefused l = whole
least_range kind rest whole NumberRange l = absurd (omega arith)
least_range kind rest whole TextTooLong l = absurd (omega arith)
least_range kind rest whole NoMemory l = tt

pub reads_range : (bytes : List ℕ) (kind : Kind) (len : ℕ) → IsShape bytes kind len → IsWhole kind (drop len bytes) → (IsInRange kind → ⊥) → ReadsFirst bytes (Err NumberRange)
reads_range bytes kind len s whole broken free = inr (record {
  kind = kind;
  rest = drop len bytes;
  first = s.first;
  broken = broken;
  least = least_range kind (drop len bytes) whole;
})

least_long : (kind : Kind) (rest : List ℕ) → IsWhole kind rest → IsInRange kind → (other : LexFault) → fault_number other < 4 → Keeps other kind rest
least_long kind rest whole range BadToken l = tt
least_long kind rest whole range RealRefused l = whole
least_long kind rest whole range NumberRange l = range
least_long kind rest whole range TextTooLong l = absurd (omega arith)
least_long kind rest whole range NoMemory l = tt

pub reads_long : (bytes : List ℕ) (kind : Kind) (len : ℕ) → IsShape bytes kind len → IsWhole kind (drop len bytes) → IsInRange kind → (IsShort kind → ⊥)
    → ReadsFirst bytes (Err TextTooLong)
reads_long bytes kind len s whole range broken free = inr (record {
  kind = kind;
  rest = drop len bytes;
  first = s.first;
  broken = broken;
  least = least_long kind (drop len bytes) whole range;
})
