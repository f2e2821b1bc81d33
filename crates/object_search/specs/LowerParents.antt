-- Objects that are starts, or to which an edge leads from a lower number.
use Rattle.std.specs.Prelude.{◌≡◌, ℕ, ◌+◌, ◌<◌, ◌⊎◌, Bool, true, false, List, Contains, slice_index_or}
use Rattle.object_search.specs.Types.{Oid, Edge}

-- a start has the number, or an edge leads there from a lower one
abbrev pub IsLed : List Oid → List Edge → ℕ → Type 0
IsLed starts edges number =
    ((start : Oid) × Contains starts start × (start.0 ≡ number))
    ⊎ ((edge : Edge) × Contains edges edge × (edge.child.0 ≡ number) × (edge.parent.0 < number))

-- each number whose place is noted, counted from `first` on, is led to
abbrev pub AreLed : List Oid → List Edge → ℕ → List Bool → Type 0
AreLed starts edges first noted =
    (place : ℕ) → slice_index_or noted place false ≡ true → IsLed starts edges (first + place)
