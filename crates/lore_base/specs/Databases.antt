-- Databases: the graph of objects that names reach, its labels and its limits, and which of them are valid.
use Rattle.std.specs.Prelude.{◌≡◌, ◌≢◌, Bool, true, false, ℕ, ◌<◌, ◌≤◌, List, [], length, FitsSigned, All, AllPairs, Contains}
use Rattle.std.specs.Int.{w64}
use Rattle.std.specs.declared.cmp.Ordering.TheVariants.{Less}
use Rattle.lore_base.specs.Types.{Oid, Label, Edge, Value, Whole, Chars, Flag, Complex, Mode, Auto}
use Rattle.lore_base.specs.Types.{TEXT_BYTES, LABELS, NAMES, OBJECTS, EDGES, NEXT_NUMBER, NODES, START_NODES}
use Rattle.lore_base.specs.Names.{IsNameTable, IsName, IsLabel}
use Rattle.lore_base.specs.Walks.{Walk, edge_cmp}
use Rattle.lore_base.specs.GuideLimits.{FitsGuide}

-- the graph of a database: its names, objects and edges, and the number that the next object gets
pub record OemGraph : Type 0 where
  pub names : List (List ℕ × Oid)
  pub objects : List (Oid × Value)
  pub edges : List Edge
  pub next : ℕ

-- a database (Abiteboul et al. 1997): label texts in the order of their numbers, the graph, the limit on the
-- guide's nodes and the plan mode
pub record Database : Type 0 where
  pub labels : List (List ℕ)
  pub graph : OemGraph
  pub nodes : ℕ
  pub mode : Mode

-- the graph of nothing
abbrev pub new_graph : OemGraph
new_graph = record { names = []; objects = []; edges = []; next = 1 }

-- the new database has nothing
abbrev pub new_database : Database
new_database = record { labels = []; graph = new_graph; nodes = START_NODES; mode = Auto }

-- whether it is the value of a complex object
abbrev pub is_complex : Value → Bool
is_complex Complex = true
is_complex value = false

-- an object is live where it has a value
abbrev pub IsLive : List (Oid × Value) → Oid → Type 0
IsLive objects oid = (value : Value) × Contains objects (oid, value)

abbrev pub IsComplex : List (Oid × Value) → Oid → Type 0
IsComplex objects oid = Contains objects (oid, Complex)

-- a number has 64 bits with its sign, and a text value keeps its limit
abbrev pub IsSized : Value → Type 0
IsSized (Whole number) = FitsSigned w64 number
IsSized (Chars text) = length text ≤ TEXT_BYTES
IsSized (Flag flag) = Unit {0}
IsSized Complex = Unit {0}

-- objects ascend by their numbers, and edges by parent, label and child
abbrev pub AreAscendingObjects : List (Oid × Value) → Type 0
AreAscendingObjects objects = AllPairs (λ a b. a.0.0 < b.0.0) objects

abbrev pub AreAscendingEdges : List Edge → Type 0
AreAscendingEdges edges = AllPairs (λ a b. edge_cmp a b ≡ Less) edges

-- names, objects and edges ascend, and each object has a number from 1 on, below the next number
pub record IsOrdered (graph : OemGraph) : Type 0 where
  pub names_ascend : IsNameTable graph.names
  pub objects_ascend : AreAscendingObjects graph.objects
  pub objects_numbered : All (λ object. (1 ≤ object.0.0) × (object.0.0 < graph.next)) graph.objects
  pub edges_ascend : AreAscendingEdges graph.edges
  pub next_numbered : (1 ≤ graph.next) × (graph.next ≤ NEXT_NUMBER)

-- both ends of an edge are live, and its parent is complex
pub record IsLinked (objects : List (Oid × Value)) (edge : Edge) : Type 0 where
  pub parent : IsComplex objects edge.parent
  pub child : IsLive objects edge.child

-- the graph is in order, its names and values have their forms, and what it names and links is live
pub record IsWellFormed (graph : OemGraph) : Type 0 where
  pub ordered : IsOrdered graph
  pub names_formed : All (λ entry. IsName entry.0) graph.names
  pub names_live : All (λ entry. IsLive graph.objects entry.1) graph.names
  pub objects_sized : All (λ object. IsSized object.1) graph.objects
  pub edges_linked : All (IsLinked graph.objects) graph.edges

-- some name walks to the object
pub record IsReached (names : List (List ℕ × Oid)) (edges : List Edge) (oid : Oid) : Type 0 where
  pub name : List ℕ
  pub start : Oid
  pub word : List Label
  pub named : Contains names (name, start)
  pub walked : Walk edges start word oid

-- the graph of a valid database: well-formed, and each object reached from a name
pub record IsRooted (graph : OemGraph) : Type 0 where
  pub well_formed : IsWellFormed graph
  pub reached : All (λ object. IsReached graph.names graph.edges object.0) graph.objects

-- the database is valid, what its guide would be left aside: distinct labels, a rooted graph whose edges have labels of
-- the table, and limits kept
pub record IsRestorable (db : Database) : Type 0 where
  pub labels_distinct : AllPairs (λ a b. a ≢ b) db.labels
  pub labels_formed : All IsLabel db.labels
  pub rooted : IsRooted db.graph
  pub labelled : All (λ edge. edge.label.0 < length db.labels) db.graph.edges
  pub few_labels : length db.labels ≤ LABELS
  pub few_names : length db.graph.names ≤ NAMES
  pub few_objects : length db.graph.objects ≤ OBJECTS
  pub few_edges : length db.graph.edges ≤ EDGES
  pub nodes_limited : (1 ≤ db.nodes) × (db.nodes ≤ NODES)

-- the database is valid: the sets of its guide keep their limits too
pub record IsValid (db : Database) : Type 0 where
  pub restorable : IsRestorable db
  pub fits : FitsGuide db.nodes db.graph.names db.graph.edges
