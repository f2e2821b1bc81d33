-- The run of one object's edges.
use Rattle.std.specs.Prelude.{◌≡◌, ◌⊎◌, ◌↔◌, ℕ, Option, Some, None, List, [], ◌++◌, Contains}
use Rattle.slab.specs.Slab.{Slab}
use Rattle.edge_lists.specs.Types.{Oid, Edge, Side, EdgeRecord}
use Rattle.edge_lists.specs.Edges.{owner_of, Precedes, Ascend}
use Rattle.edge_lists.specs.Records.{HasEdge}
use Rattle.edge_lists.specs.Chains.{StandsAt}

-- behind the earlier items come the edges of the object's list, each once, in ascending order
pub record ListsRun (side : Side) (records : Slab EdgeRecord) (owner : Oid) (old new : List Edge) : Type 0 where
  pub run : List Edge
  pub is : new ≡ old ++ run
  pub ascends : Ascend side run
  pub exact : (edge : Edge) → Contains run edge ↔ (HasEdge records edge × (owner_of side edge ≡ owner))

-- the place is that of a record in the object's list, or there is none
abbrev pub IsOn : Side → Slab EdgeRecord → Oid → Option ℕ → Type 0
IsOn side records owner None = Unit {0}
IsOn side records owner (Some key) = (edge : Edge) × StandsAt records [] key edge × (owner_of side edge ≡ owner)

-- what lies at or before a place in the object's list: nothing where there is no place
abbrev pub IsUpTo : Side → Slab EdgeRecord → Option ℕ → Edge → Type 0
IsUpTo side records None edge = ⊥
IsUpTo side records (Some key) edge = (last : Edge) × StandsAt records [] key last × ((edge ≡ last) ⊎ Precedes side edge last)

-- so far the edges up to the place
pub record ListsUpTo (side : Side) (records : Slab EdgeRecord) (owner : Oid) (place : Option ℕ) (old new : List Edge) : Type 0 where
  pub run : List Edge
  pub is : new ≡ old ++ run
  pub on : IsOn side records owner place
  pub ascends : Ascend side run
  pub exact : (edge : Edge) → Contains run edge ↔ (HasEdge records edge × IsUpTo side records place edge)
