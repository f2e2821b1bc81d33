-- How a script is cut into chunks: the states of the scanner, and which `;` ends a chunk.
use Rattle.std.specs.Prelude.{◌≡◌, ℕ, Bool, true, false, if◌then◌else◌, ◌==◌, List, [], ◌∷◌, ◌++◌, All}
use Rattle.lore_base.specs.Chunks.{joined_chunks}
use Rattle.lorel_lex.specs.declared.scan.State.{State}
use Rattle.lorel_lex.specs.declared.scan.State.TheVariants.{Plain, Dash, Comment, Text, TextEscape, Quoted}
use Rattle.lorel_lex.specs.declared.scan.State.TheVariants.{QuotedEscape}

-- a `;` ends a chunk, save in a comment, a text and a quoted label
abbrev pub is_end : State → ℕ → Bool
is_end Plain byte = byte == 59
is_end Dash byte = byte == 59
is_end Comment byte = false
is_end Text byte = false
is_end TextEscape byte = false
is_end Quoted byte = false
is_end QuotedEscape byte = false

-- behind a byte outside comments, texts and quoted labels: a `"` opens a text and a `'` a quoted label
abbrev pub opened : ℕ → State
opened byte = if byte == 34 then Text else (if byte == 39 then Quoted else Plain)

-- the state behind a byte that doesn't end the chunk. A second `-` opens a comment, which goes to a line
-- feed; a `\` takes the next byte of a text or quoted label with it
abbrev pub state_after : State → ℕ → State
state_after Plain byte = if byte == 45 then Dash else opened byte
state_after Dash byte = if byte == 45 then Comment else opened byte
state_after Comment byte = if byte == 10 then Plain else Comment
state_after Text byte = if byte == 34 then Plain else (if byte == 92 then TextEscape else Text)
state_after TextEscape byte = Text
state_after Quoted byte = if byte == 39 then Plain else (if byte == 92 then QuotedEscape else Quoted)
state_after QuotedEscape byte = Quoted

-- the state behind these bytes
abbrev pub scanned : State → List ℕ → State
scanned state [] = state
scanned state (byte ∷ bytes) = scanned (state_after state byte) bytes

-- scanned from this state, none of these bytes ends the chunk
abbrev pub GoesOn : State → List ℕ → Type 0
GoesOn state [] = Unit {0}
GoesOn state (byte ∷ bytes) = (is_end state byte ≡ false) × GoesOn (state_after state byte) bytes

-- a chunk that begins with these bytes isn't ended by any of them
abbrev pub IsOpen : List ℕ → Type 0
IsOpen bytes = GoesOn Plain bytes

-- a `;` behind these bytes ends the chunk, and none of them does
pub record IsChunk (bytes : List ℕ) : Type 0 where
  pub unended : IsOpen bytes
  pub ended : is_end (scanned Plain bytes) 59 ≡ true

-- the script is these chunks, each with its `;`, and a rest that no `;` ends
pub record IsScript (script : List ℕ) (chunks : List (List ℕ)) (rest : List ℕ) : Type 0 where
  pub whole : script ≡ joined_chunks chunks ++ rest
  pub each : All IsChunk chunks
  pub unended : IsOpen rest

-- no script has two cuts into chunks and a rest
abbrev pub HasOneCut : Type 0
HasOneCut = (script rest other : List ℕ) (chunks others : List (List ℕ))
    → IsScript script chunks rest → IsScript script others other → (chunks ≡ others) × (rest ≡ other)

-- each script has a cut into chunks and a rest
abbrev pub HasSomeCut : Type 0
HasSomeCut = (script : List ℕ) → (chunks : List (List ℕ)) × (rest : List ℕ) × IsScript script chunks rest
