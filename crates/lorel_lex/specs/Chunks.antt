-- What a reader of chunks does with the next piece of a script.
use Rattle.std.specs.Prelude.{◌≡◌, ℕ, ◌+◌, ◌<◌, ◌≤◌, true, false, ◌⊎◌, List, ◌∷◌, ◌++◌, length}
use Rattle.lorel_lex.specs.Types.{CHUNK_BYTES}
use Rattle.lorel_lex.specs.declared.chunk_reader.FedState.{FedState}
use Rattle.lorel_lex.specs.declared.chunk_reader.FedState.TheVariants.{More, Whole, TooLong, NoMemory}
use Rattle.lorel_lex.specs.Progress.{Progress, holds}
use Rattle.lorel_lex.specs.Scan.{IsOpen, IsChunk}

-- the piece was used whole, and the chunk isn't ended yet
pub record GoesOnWith (old : Progress) (piece : List ℕ) (used : ℕ) (new : Progress) : Type 0 where
  pub unfailed : old.failed ≡ false
  pub uses : used ≡ length piece
  pub held : new ≡ holds (old.held ++ piece)
  pub unended : IsOpen (old.held ++ piece)
  pub sized : length (old.held ++ piece) ≤ CHUNK_BYTES

-- the `;` of the chunk stands in the piece, and the bytes up to it and it itself were used
pub record EndsChunk (old : Progress) (piece : List ℕ) (used : ℕ) (new : Progress) : Type 0 where
  pub front : List ℕ
  pub back : List ℕ
  pub unfailed : old.failed ≡ false
  pub parts : piece ≡ front ++ 59 ∷ back
  pub uses : used ≡ length front + 1
  pub held : new ≡ record { held = old.held ++ front; whole = true; failed = false }
  pub chunk : IsChunk (old.held ++ front)
  pub sized : length (old.held ++ front) ≤ CHUNK_BYTES

-- more bytes of one chunk than a chunk may have, and no `;` that ends it among them
pub record IsTooLong (held piece : List ℕ) : Type 0 where
  pub front : List ℕ
  pub back : List ℕ
  pub parts : piece ≡ front ++ back
  pub unended : IsOpen (held ++ front)
  pub oversized : CHUNK_BYTES < length (held ++ front)

-- the chunk passed its limit, in this piece or before
abbrev pub PassesLimit : Progress → List ℕ → Type 0
PassesLimit old piece = (old.failed ≡ true) ⊎ IsTooLong old.held piece

-- what `feed` did with a piece, by the state that it answers
abbrev pub Feeds : FedState → Progress → List ℕ → ℕ → Progress → Type 0
Feeds More old piece used new = GoesOnWith old piece used new
Feeds Whole old piece used new = EndsChunk old piece used new
Feeds TooLong old piece used new = PassesLimit old piece × (used ≡ 0)
    × (new ≡ record { held = old.held; whole = false; failed = true })
Feeds NoMemory old piece used new = (old.failed ≡ false) × (used ≡ 0) × (new ≡ old)
