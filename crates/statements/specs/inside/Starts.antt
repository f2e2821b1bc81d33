-- What the ranges of a bound select start at.
use Rattle.std.specs.Prelude.{ℕ, List, All, Contains}
use Rattle.statements.specs.Types.{Oid, Start}
use Rattle.statements.specs.Types.starts
use Rattle.lorel_bound.specs.Bound.{BoundTree}

-- a start is a slot, or an object that has a name
abbrev pub IsNamedStart : List (List ℕ × Oid) → Start → Type 0
IsNamedStart names (starts.Named oid) = (name : List ℕ) × Contains names (name, oid)
IsNamedStart names (starts.Slot slot) = Unit {0}

-- each range has such a start
abbrev pub HasNamedStarts : List (List ℕ × Oid) → BoundTree → Type 0
HasNamedStarts names bound = All (λ range. IsNamedStart names range.start) bound.ranges
