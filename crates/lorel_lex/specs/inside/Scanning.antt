-- What one scan over bytes promises.
use Rattle.std.specs.Prelude.{◌≡◌, ℕ, ◌<◌, ◌≤◌, Bool, true, ◌&&◌, not, ◌==◌, List, length, take, slice_index}
use Rattle.lorel_lex.specs.Scan.{is_end, scanned, GoesOn}
use Rattle.lorel_lex.specs.declared.scan.State.{State}
use Rattle.lorel_lex.specs.declared.scan.Scanned.{Scanned}
use Rattle.lorel_lex.specs.declared.scan.Scanned.TheVariants.{End, Open}

-- the `;` at this place is the first byte that ends the chunk
pub record EndsAt (from : State) (bytes : List ℕ) (at : ℕ) : Type 0 where
  pub within : at < length bytes
  pub before : GoesOn from (take at bytes)
  pub ended : is_end (scanned from (take at bytes)) (slice_index bytes at) ≡ true

-- no byte ends the chunk, and this is the state behind them
pub record StaysOpen (from : State) (bytes : List ℕ) (state : State) : Type 0 where
  pub all : GoesOn from bytes
  pub reached : state ≡ scanned from bytes

abbrev pub Scans : State → List ℕ → Scanned → Type 0
Scans from bytes (End at) = EndsAt from bytes at
Scans from bytes (Open state) = StaysOpen from bytes state

-- neither of two bytes
abbrev pub is_neither : ℕ → ℕ → ℕ → Bool
is_neither one other byte = not (byte == one) && not (byte == other)

-- a byte that opens nothing and ends no chunk: no `"`, `'`, `-` or `;`
abbrev pub is_plain : ℕ → Bool
is_plain byte = is_neither 34 39 byte && is_neither 45 59 byte

-- this many bytes at the front leave the state as it is, and end no chunk
pub record StaysStill (state : State) (bytes : List ℕ) (len : ℕ) : Type 0 where
  pub within : len ≤ length bytes
  pub all : GoesOn state (take len bytes)
  pub still : scanned state (take len bytes) ≡ state
