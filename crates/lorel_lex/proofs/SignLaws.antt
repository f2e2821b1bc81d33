-- The symbol at the front.
use Rattle.std.proofs.Common.{◌≡◌, ℕ, ◌<◌, List, [], ◌∷◌, ◌++◌, length, get_or, take, Option, Some, None, sym, ap, subst, ◌∙◌, arith}
use Rattle.std.proofs.lemmas.List.{length-append, take_at}
use Rattle.lorel_lex.specs.Types.{Kind, Symbol, Sign, Other}
use Rattle.lorel_tokens.specs.Shapes.{sign_text, IsToken}
use Rattle.lorel_lex.specs.Tokens.{BeginsNone}
use Rattle.lorel_lex.specs.inside.Lexing.{class_of, single, pair_at, BeginsSymbol, IsShape}
use Rattle.lorel_lex.proofs.SymbolLaws.{Written, written, one, two, single_text, pair_front, pair_found, sign_short}
use Rattle.lorel_lex.proofs.ClassLaws.{admitted, other_kind}
use Rattle.lorel_lex.proofs.FaultLaws.{shape}

-- a symbol at the front, by its bytes
symbol_text : (bytes text rest : List ℕ) (kind : Kind) → BeginsSymbol bytes → bytes ≡ text ++ rest → IsToken text rest kind → (sign : Sign) × (text ≡ sign_text sign)
symbol_text bytes text rest kind only e s = let (sign, is) = only text rest kind e s in (sign, let token : IsToken text rest (Symbol sign) = subst (IsToken text rest) is s in token)

pub pair_shape : (bytes : List ℕ) (sign : Sign) → BeginsSymbol bytes → pair_at bytes ≡ Some sign → IsShape bytes (Symbol sign) 2
pair_shape bytes sign only found =
    let (back, e, size) = pair_front bytes sign found in
    shape bytes (Symbol sign) 2 (omega (arith, ap length e, length-append (sign_text sign) back)) (ap (take 2) e ∙ take_at (sign_text sign) back 2 size) (λ text rest kind parts s.
    let (other, is) = symbol_text bytes text rest kind only parts s in omega (arith, ap length is, sign_short other))

-- without a pair there is at most one byte
pub one_byte : (bytes text rest : List ℕ) (sign : Sign) → pair_at bytes ≡ None → bytes ≡ text ++ rest → text ≡ sign_text sign → Written sign → (byte : ℕ) × (text ≡ byte ∷ []) × (single byte ≡ Some sign)
one_byte bytes text rest sign none e is (one byte t s) = (byte, is ∙ t, s)
one_byte bytes text rest sign none e is (two byte t s) = absurd (
    let found = pair_found bytes rest byte sign (e ∙ ap (λ (l : List ℕ). l ++ rest) (is ∙ t)) s in cc)

pub single_shape : (bytes : List ℕ) (sign : Sign) → 0 < length bytes → BeginsSymbol bytes → pair_at bytes ≡ None → single (get_or bytes 0 0) ≡ Some sign → IsShape bytes (Symbol sign) 1
single_shape [] sign some only none found = absurd (omega arith)
single_shape (byte ∷ bytes) sign some only none found =
    shape (byte ∷ bytes) (Symbol sign) 1 (omega arith) (sym (single_text byte sign found)) (λ text rest kind parts s.
    let (other, is) = symbol_text (byte ∷ bytes) text rest kind only parts s in
    let (first, alone, _) = one_byte (byte ∷ bytes) text rest other none parts is (written other) in
    omega (arith, ap length alone))

-- neither a pair nor a single byte
pub no_symbol : (bytes : List ℕ) → BeginsSymbol bytes → pair_at bytes ≡ None → single (get_or bytes 0 0) ≡ None → BeginsNone bytes
no_symbol bytes only none missing text rest kind parts s =
    let (other, is) = symbol_text bytes text rest kind only parts s in
    let (first, alone, found) = one_byte bytes text rest other none parts is (written other) in
    let same : get_or bytes 0 0 ≡ first = ap (λ (l : List ℕ). get_or l 0 0) (parts ∙ ap (λ (l : List ℕ). l ++ rest) alone) in
    let wrong : None ≡ Some other = sym missing ∙ ap single same ∙ found in cc

pub no_pair : (bytes : List ℕ) (found : Option Sign) → found ≡ pair_at bytes → found ≡ None → pair_at bytes ≡ None
no_pair bytes found e none = sym e ∙ none

pub other_symbol : (bytes : List ℕ) → class_of (get_or bytes 0 0) ≡ Other → BeginsSymbol bytes
other_symbol bytes class front back kind parts s =
    let (sign, f, is) = other_kind front back kind s (admitted bytes front back kind Other class parts s) in (sign, is)
