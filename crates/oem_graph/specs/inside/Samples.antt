-- A small graph, of which tests are made.
use Rattle.std.specs.Prelude.{ℕ, List, [], ◌∷◌}
use Rattle.oem_graph.specs.Types.{Oid, Value, Complex, Edge}
use Rattle.lore_base.specs.Databases.{OemGraph}

-- the edge of these numbers
abbrev pub numbered : ℕ → ℕ → ℕ → Edge
numbered parent label child = record { parent = record { 0 = parent }; label = record { 0 = label }; child = record { 0 = child } }

-- two objects
abbrev pub sample_objects : List (Oid × Value)
sample_objects = (record { 0 = 1 }, Complex) ∷ (record { 0 = 2 }, Complex) ∷ []

-- with edges between them
abbrev pub sample : List Edge → OemGraph
sample edges = record { names = []; objects = sample_objects; edges = edges; next = 3 }

-- the edges before the second is taken away and one comes that is lower than all
abbrev pub edges_before : List Edge
edges_before = numbered 1 1 1 ∷ numbered 1 2 2 ∷ numbered 2 0 1 ∷ []

-- and the edges then
abbrev pub edges_after : List Edge
edges_after = numbered 1 0 2 ∷ numbered 1 1 1 ∷ numbered 2 0 1 ∷ []
