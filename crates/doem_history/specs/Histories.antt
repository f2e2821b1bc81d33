-- Histories as they are kept: the runs of facts, and the moments that they tell.
pub use Rattle.doem_facts.specs.Held.{holds, facts_at}
use Rattle.std.specs.Prelude.{◌≡◌, ℕ, ◌+◌, List, [], ◌∷◌, map}
use Rattle.std.specs.List.{range_with_len}
use Rattle.std.specs.BTreeSet.{insert_key}
use Rattle.std.specs.declared.cmp.Ordering.{Ordering}
use Rattle.lore_base.specs.Walks.{edge_cmp}
use Rattle.doem_history.specs.Types.{Oid, Edge, Value, Run}
use Rattle.doem_history.specs.Facts.{name_order, object_order}
use Rattle.doem_history.specs.Moments.{Moment}

-- the facts in ascending order
abbrev pub ordered : {F : Type 0} → (F → F → Ordering) → List F → List F
ordered cmp [] = []
ordered cmp (fact ∷ facts) = insert_key cmp (ordered cmp facts) fact

-- the runs of one kind of fact in the order of their beginnings, the number of moments, and for how many
-- beginnings, endings and moments together there is room
pub record KeptRuns (F : Type 0) : Type 0 where
  pub runs : List (Run F)
  pub moments : ℕ
  pub room : ℕ

-- a history: its runs, the number of its last moment, and what it weighs
pub record KeptHistory : Type 0 where
  pub names : KeptRuns (List ℕ × Oid)
  pub objects : KeptRuns (Oid × Value)
  pub edges : KeptRuns Edge
  pub last : ℕ
  pub weight : ℕ

-- what it tells of one moment
abbrev pub moment_at : KeptHistory → ℕ → Moment
moment_at history moment = record {
  names = ordered name_order (facts_at moment history.names.runs);
  objects = ordered object_order (facts_at moment history.objects.runs);
  edges = ordered edge_cmp (facts_at moment history.edges.runs);
}

abbrev pub last_moment : KeptHistory → Moment
last_moment history = moment_at history history.last

-- its moments, from 0 on
abbrev pub moments_of : KeptHistory → List Moment
moments_of history = map (moment_at history) (range_with_len 0 (history.last + 1))

-- the runs and the moments are the same
pub record AreSame {F : Type 0} (old new : KeptRuns F) : Type 0 where
  pub runs : new.runs ≡ old.runs
  pub moments : new.moments ≡ old.moments

-- the histories are one, save for the room
pub record IsSame (old new : KeptHistory) : Type 0 where
  pub names : AreSame old.names new.names
  pub objects : AreSame old.objects new.objects
  pub edges : AreSame old.edges new.edges
  pub last : new.last ≡ old.last
  pub weight : new.weight ≡ old.weight
