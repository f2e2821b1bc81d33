-- Clues as they are read off a condition, a member and a side of it at a time.
use Rattle.std.specs.Prelude.{◌≡◌, ◌≤◌, ℕ, List, Option, None, Some, All, IfSome}
use Rattle.lore_base.specs.Paths.{path_tree, leaves, seq, none}
use Rattle.lorel_bound.specs.Bound.{BoundPathTree, bound_path}
use Rattle.lorel_bound.specs.Conditions.{CondOf, exists}
use Rattle.member_clues.specs.Types.{BoundStart, BoundPath, LEAVES}
use Rattle.member_clues.specs.Types.bound_starts
use Rattle.member_clues.specs.Asked.{Follows}
use Rattle.member_clues.specs.Clues.{IsClueOf}
use Rattle.member_clues.specs.declared.clues.Clue.{Clue}

-- the condition holds, or holds of some object that the path reaches
abbrev pub within : Option BoundPath → CondOf BoundPathTree → CondOf BoundPathTree
within None condition = condition
within (Some path) condition = exists (bound_path path) condition

-- its rest has few leaves
abbrev pub IsShort : Option BoundPath → Type 0
IsShort through = IfSome through (λ path. leaves (path_tree path.rest) ≤ LEAVES)

-- a path that starts so is sought from the slot's object, or from one that the path to go through reaches from there
abbrev pub IsFrom : Option BoundPath → ℕ → BoundStart → Type 0
IsFrom None slot start = start ≡ bound_starts.Slot slot
IsFrom (Some path) slot start = (path.start ≡ bound_starts.Slot slot) × (start ≡ bound_starts.Quantified 0)

-- the path is the object of the outermost quantifier
abbrev pub IsItself : BoundPathTree → Type 0
IsItself path = (path.start ≡ bound_starts.Quantified 0) × (path.rest ≡ seq none)

-- a clue of the condition is one of each condition of which this one follows
abbrev pub IsClueBy : List (List ℕ) → CondOf BoundPathTree → Clue → Type 0
IsClueBy labels condition clue = (whole : CondOf BoundPathTree) → Follows labels whole condition → IsClueOf labels whole clue

-- beside the old clues are some of the condition, and so of each of which it follows
abbrev pub AddsCluesOf : List (List ℕ) → CondOf BoundPathTree → List Clue → List Clue → Type 0
AddsCluesOf labels condition old new =
    (whole : CondOf BoundPathTree) → Follows labels whole condition → All (IsClueOf labels whole) old → All (IsClueOf labels whole) new
