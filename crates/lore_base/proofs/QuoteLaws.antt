-- A text that is written between quotes is read back.
use Rattle.std.proofs.Common.{◌≡◌, ◌≢◌, ℕ, ◌<◌, ◌⊎◌, inl, inr, Bool, true, false, ◌==◌, List, [], ◌∷◌, ◌++◌, Some, refl, arith}
use Rattle.std.specs.List.{flat_map}
use Rattle.std.proofs.lemmas.Bool.Decides.{nat_tests}
use Rattle.lore_base.specs.Quotes.{escape, in_quotes, unescape, IsContents, IsQuoted}

either : (b : Bool) → (b ≡ true) ⊎ (b ≡ false)
either true = inl refl
either false = inr refl

-- a byte is written behind a backslash by a letter that stands for it, or it is written as it is
abbrev IsWritten : ℕ → ℕ → List ℕ → Type 0
IsWritten quote byte written = ((letter : ℕ) × (written ≡ 92 ∷ letter ∷ []) × (unescape quote letter ≡ Some byte))
    ⊎ ((written ≡ byte ∷ []) × (byte ≢ quote) × (byte ≢ 92))

written : (quote : ℕ) → quote < 92 → (byte : ℕ) → IsWritten quote byte (escape quote byte)
written quote low byte =
    elim (either (byte == quote)) [
      | inl same ↦ inl (quote, grind (arith, nat_tests), grind (arith, nat_tests))
      | inr other ↦ elim (either (byte == 92)) [
        | inl same ↦ inl (92, grind (arith, nat_tests), grind (arith, nat_tests))
        | inr other_2 ↦ elim (either (byte == 10)) [
          | inl same ↦ inl (110, grind (arith, nat_tests), grind (arith, nat_tests))
          | inr other_3 ↦ elim (either (byte == 13)) [
            | inl same ↦ inl (114, grind (arith, nat_tests), grind (arith, nat_tests))
            | inr other_4 ↦ elim (either (byte == 9)) [
              | inl same ↦ inl (116, grind (arith, nat_tests), grind (arith, nat_tests))
              | inr other_5 ↦ inr (grind (arith, nat_tests), grind (arith, nat_tests), grind (arith, nat_tests))
            ]
          ]
        ]
      ]
    ]

-- one byte more at the front
contents-written : (quote byte : ℕ) (bytes raw text : List ℕ) → IsWritten quote byte bytes → IsContents quote raw text
    → IsContents quote (bytes ++ raw) (byte ∷ text)
contents-written quote byte bytes raw text h contents = elim h [
  | inl escaped ↦ rw escaped.1 (inl (refl, (byte, text, escaped.2, refl, contents)))
  | inr plain ↦ rw plain.0 (inr (plain.1, plain.2, text, refl, contents))
]

contents-escaped : (quote : ℕ) → quote < 92 → (text : List ℕ) → IsContents quote (flat_map (escape quote) text) text
contents-escaped quote low [] = refl
contents-escaped quote low (byte ∷ text) =
    contents-written quote byte (escape quote byte) (flat_map (escape quote) text) text (written quote low byte) (contents-escaped quote low text)

-- what is written between quotes stands for the text; a quote is `"` or `'`
pub quoted-back : (quote : ℕ) → quote < 92 → (text : List ℕ) → IsQuoted quote (in_quotes quote text) text
quoted-back quote low text = (flat_map (escape quote) text, refl, contents-escaped quote low text)
