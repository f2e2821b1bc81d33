-- How contracts see a reader of chunks.
use Rattle.std.specs.Prelude.{ℕ, Bool, false, List}

-- how far a script was read: the bytes held of the chunk at hand, whether they are a whole chunk that waits
-- to be taken, and whether a chunk passed its limit
pub record Progress : Type 0 where
  pub held : List ℕ
  pub whole : Bool
  pub failed : Bool

-- these bytes of a chunk that isn't whole yet
abbrev pub holds : List ℕ → Progress
holds bytes = record { held = bytes; whole = false; failed = false }
