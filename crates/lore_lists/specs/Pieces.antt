-- Pieces of a text that are put one behind the other: how far they have come, and what a put does.
use Rattle.std.specs.Prelude.{◌≡◌, ℕ, ◌<◌, ◌≤◌, ◌⊎◌, List, ◌++◌, length, Option, Some, None, Result, MatchResult}
use Rattle.std.specs.Io.KnownBytes.{Appends}
use Rattle.lore_lists.specs.Causes.{Rose}

-- how far the pieces have come: the bytes put so far, where they are told, and how many puts have failed. Where the
-- bytes are passed on: a name of the place that they go to, and those that have gone there, where these are told
pub record OutState : Type 0 where
  pub bytes : Option (List ℕ)
  pub faults : ℕ
  pub place : ℕ
  pub passed : Option (List ℕ)

-- bytes that are kept, and passed on to no place
abbrev pub kept : List ℕ → OutState
kept bytes = record { bytes = Some bytes; faults = 0; place = 0; passed = None }

-- bytes are passed on to one place, and what has gone there stays
pub record PassesOn (before after : OutState) : Type 0 where
  pub same_place : after.place ≡ before.place
  pub more : List ℕ
  pub passed : Appends before.passed after.passed more

-- all of the bytes were put, and no fault was counted
pub record Takes (before : OutState) (bytes : List ℕ) (after : OutState) : Type 0 where
  pub put : Appends before.bytes after.bytes bytes
  pub faults : after.faults ≡ before.faults
  pub passes : PassesOn before after

-- a front of the bytes was put, and some of them were not: memory was refused, or the count of faults has risen
pub record Breaks {E : Type 0} (IsMemory : E → Type 0) (before : OutState) (bytes : List ℕ) (after : OutState)
    (fault : E) : Type 0 where
  pub front : List ℕ
  pub missing : List ℕ
  pub parts : front ++ missing ≡ bytes
  pub some_missing : 0 < length missing
  pub put : Appends before.bytes after.bytes front
  pub later : before.faults ≤ after.faults
  pub cause : IsMemory fault ⊎ Rose before.faults after.faults
  pub passes : PassesOn before after

-- bytes are put, or a fault comes first
abbrev pub Puts : {A E : Type 0} → (E → Type 0) → OutState → List ℕ → OutState → Result A E → Type 0
Puts IsMemory before bytes after result =
    MatchResult result (λ _. Takes before bytes after) (λ fault. Breaks IsMemory before bytes after fault)
