-- How a text is written between quotes, which of its bytes are escaped, and how it is read back. One rule
-- serves texts (the quote 34, `"`) and labels (the quote 39, `'`).
use Rattle.std.specs.Prelude.{◌≡◌, ◌≢◌, ℕ, ◌⊎◌, if◌then◌else◌, ◌==◌, List, [], ◌∷◌, ◌++◌, Option, Some, None}
use Rattle.std.specs.List.{flat_map}

-- a byte as it is written: the quote, backslashes, line feeds, carriage returns and tabs stand behind a
-- backslash
abbrev pub escape : ℕ → ℕ → List ℕ
escape quote byte =
    if byte == quote then 92 ∷ quote ∷ []
    else (if byte == 92 then 92 ∷ 92 ∷ []
    else (if byte == 10 then 92 ∷ 110 ∷ []
    else (if byte == 13 then 92 ∷ 114 ∷ []
    else (if byte == 9 then 92 ∷ 116 ∷ [] else byte ∷ []))))

-- a text as it is written between its quotes
abbrev pub in_quotes : ℕ → List ℕ → List ℕ
in_quotes quote text = quote ∷ (flat_map (escape quote) text ++ quote ∷ [])

-- the byte that a letter behind a backslash stands for: the quote itself, `\\`, `\n`, `\r`, `\t`
abbrev pub unescape : ℕ → ℕ → Option ℕ
unescape quote letter =
    if letter == quote then Some quote
    else (if letter == 92 then Some 92
    else (if letter == 110 then Some 10
    else (if letter == 114 then Some 13
    else (if letter == 116 then Some 9
    else None))))

-- the bytes between two quotes, and the bytes that they stand for: an escape stands for its byte, any other
-- byte but the quote for itself
abbrev mutual
  pub IsContents : ℕ → List ℕ → List ℕ → Type 0
  IsContents quote [] text = text ≡ []
  IsContents quote (byte ∷ raw) text =
      ((byte ≡ 92) × IsEscaped quote raw text)
      ⊎ ((byte ≢ quote) × (byte ≢ 92) × (rest : List ℕ) × (text ≡ byte ∷ rest) × IsContents quote raw rest)

  pub IsEscaped : ℕ → List ℕ → List ℕ → Type 0
  IsEscaped quote [] text = ⊥
  IsEscaped quote (letter ∷ raw) text =
      (byte : ℕ) × (rest : List ℕ)
      × (unescape quote letter ≡ Some byte) × (text ≡ byte ∷ rest) × IsContents quote raw rest

-- a quote, contents and a quote
abbrev pub IsQuoted : ℕ → List ℕ → List ℕ → Type 0
IsQuoted quote text contents =
    (raw : List ℕ) × (text ≡ quote ∷ (raw ++ quote ∷ [])) × IsContents quote raw contents
