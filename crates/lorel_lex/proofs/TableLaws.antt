-- A table of bytes says of each byte what a test says.
use Rattle.std.proofs.Common.{◌≡◌, ℕ, ◌+◌, ◌<◌, Bool, true, false, cond, ◌&&◌, List, [], ◌∷◌, length, get_or, zero, suc, refl, ap, ◌∙◌, arith}
use Rattle.std.specs.Prelude.{not}
use Rattle.std.proofs.lemmas.Bool.{and_parts}
use Rattle.lore_base.specs.Names.{is_word_byte}
use Rattle.lorel_tokens.specs.Shapes.{is_pattern_start}
use Rattle.lorel_lex.specs.inside.Scanning.{is_plain}
use Rattle.lorel_lex.specs.declared.byte_class.TheConstants.{WORD_BYTES, PATTERN_STARTS}
use Rattle.lorel_lex.specs.declared.scan.TheConstants.{PLAIN_BYTES}

-- from this place on each entry is what the test says of its place
abbrev agrees : (ℕ → Bool) → ℕ → List Bool → Bool
agrees test at [] = true
agrees test at (entry ∷ table) = cond entry (test at) (not (test at)) && agrees test (at + 1) table

same_entry : (entry said : Bool) → cond entry said (not said) ≡ true → entry ≡ said
same_entry true true e = refl
same_entry false false e = refl
same_entry true false e = absurd (cc)
same_entry false true e = absurd (cc)

entry_is : (test : ℕ → Bool) (at : ℕ) (table : List Bool) (i : ℕ) → agrees test at table ≡ true → i < length table → get_or table i false ≡ test (at + i)
entry_is test at [] i e l = absurd (omega arith)
entry_is test at (entry ∷ table) zero e l =
    let both = and_parts (cond entry (test at) (not (test at))) (agrees test (at + 1) table) e in
    let place : at ≡ at + 0 = omega arith in
    same_entry entry (test at) both.0 ∙ ap test place
entry_is test at (entry ∷ table) (suc i) e l =
    let both = and_parts (cond entry (test at) (not (test at))) (agrees test (at + 1) table) e in
    let place : at + 1 + i ≡ at + suc i = omega arith in
    entry_is test (at + 1) table i both.1 (omega arith) ∙ ap test place

-- a table of 256 entries that agrees with a test says of a byte what the test says
table_says : (test : ℕ → Bool) (table : List Bool) (byte : ℕ) → agrees test 0 table ≡ true → length table ≡ 256 → byte < 256 → get_or table byte false ≡ test byte
table_says test table byte e size l = let place : 0 + byte ≡ byte = omega arith in entry_is test 0 table byte e (omega arith) ∙ ap test place

pub word_entry : (byte : ℕ) → byte < 256 → get_or WORD_BYTES byte false ≡ is_word_byte byte
word_entry byte l = table_says is_word_byte WORD_BYTES byte refl refl l

pub start_entry : (byte : ℕ) → byte < 256 → get_or PATTERN_STARTS byte false ≡ is_pattern_start byte
start_entry byte l = table_says is_pattern_start PATTERN_STARTS byte refl refl l

pub plain_entry : (byte : ℕ) → byte < 256 → get_or PLAIN_BYTES byte false ≡ is_plain byte
plain_entry byte l = table_says is_plain PLAIN_BYTES byte refl refl l
