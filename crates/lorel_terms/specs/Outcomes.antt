-- What a parser finds at the front of a list of tokens, and the steps that parsers are made of.
use Rattle.std.specs.Prelude.{◌≡◌, ℕ, Bool, false, if◌then◌else◌, List, [], ◌∷◌, Option, Some, None, Result}
use Rattle.std.specs.Prelude.{Ok, Err}
use Rattle.std.specs.Str.{bytes_eq}
use denote.Enum.Bare.{sameb}
use Rattle.lorel_tokens.specs.contracts.token_types.Sign.{the_type}
use Rattle.lorel_terms.specs.Types.{Kind, Sign}
use Rattle.lorel_tokens.specs.declared.token_types.Kind.TheVariants as k
use Rattle.lorel_terms.specs.declared.faults.ParseFault.{ParseFault}
use Rattle.lorel_terms.specs.declared.faults.ParseFault.TheVariants.{Syntax, NoMemory}

-- what was read and the tokens behind it, or nothing
abbrev pub Outcome : Type 0 → Type 0
Outcome A = Option (A × List Kind)

abbrev pub Parse : Type 0 → Type 0
Parse A = List Kind → Outcome A

-- one step, and another behind it
abbrev pub and_then : {A B : Type 0} → Outcome A → (A → Parse B) → Outcome B
and_then (Some found) more = more found.0 found.1
and_then None more = None

-- reads nothing
abbrev pub refuse : {A : Type 0} → Parse A
refuse kinds = None

-- the tokens behind the next one
abbrev pub next : List Kind → List Kind
next [] = []
next (kind ∷ kinds) = kinds

abbrev pub is_symbol : Sign → Kind → Bool
is_symbol sign (k.Symbol other) = sameb the_type other sign
is_symbol sign _ = false

abbrev pub is_word : List ℕ → Kind → Bool
is_word wanted (k.Word text) = bytes_eq text wanted
is_word wanted _ = false

abbrev pub is_next : (Kind → Bool) → List Kind → Bool
is_next test [] = false
is_next test (kind ∷ kinds) = test kind

-- the next token is this symbol
unfoldable pub sees : Sign → List Kind → Bool
sees sign = is_next (is_symbol sign)

-- the next token is this word
unfoldable pub sees_word : List ℕ → List Kind → Bool
sees_word wanted = is_next (is_word wanted)

-- the tokens behind this symbol, or all where it doesn't stand there
abbrev pub after : Sign → List Kind → List Kind
after sign kinds = if sees sign kinds then next kinds else kinds

abbrev pub after_word : List ℕ → List Kind → List Kind
after_word wanted kinds = if sees_word wanted kinds then next kinds else kinds

-- the next token, whatever it is
abbrev pub taken : Parse Kind
taken [] = None
taken (kind ∷ kinds) = Some (kind, kinds)

-- what was found, without a token of its own
abbrev pub found : {A : Type 0} → Option A → Parse A
found None kinds = None
found (Some value) kinds = Some (value, kinds)

-- the next token, read so
abbrev pub token : {A : Type 0} → (Kind → Option A) → Parse A
token read kinds = and_then (taken kinds) (λ kind rest. found (read kind) rest)

-- takes this symbol
unfoldable pub expect : Sign → Parse (Unit {0})
expect sign kinds = if sees sign kinds then Some (tt, next kinds) else None

-- takes this word
unfoldable pub expect_word : List ℕ → Parse (Unit {0})
expect_word wanted kinds = if sees_word wanted kinds then Some (tt, next kinds) else None

-- the answer of a function that reads from a cursor. Nothing is said where memory is refused
abbrev pub Reads : {X A : Type 0} → (X → A) → Outcome A → Result X ParseFault → List Kind → Type 0
Reads view outcome (Ok x) left = outcome ≡ Some (view x, left)
Reads view outcome (Err Syntax) left = outcome ≡ None
Reads view outcome (Err NoMemory) left = Unit {0}

-- the answer of one that makes something of what was read, and fails for want of memory alone
abbrev pub Makes : {X A : Type 0} → (X → A) → A → Result X ParseFault → Type 0
Makes view made (Ok x) = view x ≡ made
Makes view made (Err Syntax) = ⊥
Makes view made (Err NoMemory) = Unit {0}

-- and of one that looks at no token
abbrev pub Finds : {X A : Type 0} → (X → A) → Option A → Result X ParseFault → Type 0
Finds view found (Ok x) = found ≡ Some (view x)
Finds view found (Err Syntax) = found ≡ None
Finds view found (Err NoMemory) = Unit {0}
