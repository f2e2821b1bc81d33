-- The moments of a history, what leads from one to another, what a list of them weighs, and when it is full.
use Rattle.std.specs.Prelude.{◌≡◌, ◌⊎◌, ℕ, ◌+◌, ◌<◌, List, length, map}
use Rattle.lore_base.specs.Names.{IsNameTable}
use Rattle.lore_base.specs.Databases.{OemGraph, AreAscendingObjects, AreAscendingEdges}
use Rattle.lore_base.specs.Deltas.{IsDelta}
use Rattle.doem_history.specs.Types.{Oid, Edge, Value, Delta, MOMENTS, HISTORY_WEIGHT}
use Rattle.doem_history.specs.Facts.{object_weight}
use Rattle.doem_history.specs.Runs.{IsWeight}

-- what a history tells of one moment: the names, objects and edges of a database
pub record Moment : Type 0 where
  pub names : List (List ℕ × Oid)
  pub objects : List (Oid × Value)
  pub edges : List Edge

abbrev pub moment_of : List (List ℕ × Oid) → List (Oid × Value) → List Edge → Moment
moment_of names objects edges = record { names = names; objects = objects; edges = edges }

-- the graph of a moment, so that deltas can speak of it. A history tells no next number. This one is 0,
-- which no graph in order has; so a moment is never said to be such a graph, and IsInOrder says what order
-- it has
abbrev pub graph_of : Moment → OemGraph
graph_of moment = record { names = moment.names; objects = moment.objects; edges = moment.edges; next = 0 }

-- names, objects and edges ascend
pub record IsInOrder (moment : Moment) : Type 0 where
  pub names : IsNameTable moment.names
  pub objects : AreAscendingObjects moment.objects
  pub edges : AreAscendingEdges moment.edges

-- the delta leads from one moment to another, which is in order
pub record LeadsTo (before after : Moment) (delta : Delta) : Type 0 where
  pub ordered : IsInOrder after
  pub differ : IsDelta (graph_of before) (graph_of after) delta

-- what the maximal runs of all facts weigh: 64 each, and the bytes of the value where it is a text
pub record IsHistoryWeight (moments : List Moment) (weight : ℕ) : Type 0 where
  pub names : ℕ
  pub objects : ℕ
  pub edges : ℕ
  pub of_names : IsWeight (λ _. 64) (map (λ m. m.names) moments) names
  pub of_objects : IsWeight object_weight (map (λ m. m.objects) moments) objects
  pub of_edges : IsWeight (λ _. 64) (map (λ m. m.edges) moments) edges
  pub whole : weight ≡ names + objects + edges

-- they weigh too much
abbrev pub IsTooHeavy : List Moment → Type 0
IsTooHeavy moments = (weight : ℕ) × IsHistoryWeight moments weight × (HISTORY_WEIGHT < weight)

-- a last moment above the greatest number, or too much weight
abbrev pub IsFull : List Moment → Type 0
IsFull moments = (MOMENTS + 1 < length moments) ⊎ IsTooHeavy moments
