-- The rules that a dump text keeps. A tree that breaks one of them stands for no valid database, the number of target
-- sets left aside.
use Rattle.std.specs.Prelude.{◌≡◌, ◌≢◌, ℕ, ℤ, pos, ◌<◌, ◌≤◌, List, length, map, All, AllPairs, Contains}
use Rattle.dump_text.specs.Types.{Oid, Edge, LABELS, NAMES, OBJECTS, EDGES, NODES, NEXT_NUMBER, DumpTree}
use Rattle.lore_base.specs.Names.{IsNameTable, IsName, IsLabel}
use Rattle.lore_base.specs.Walks.{edge_of}
use Rattle.lore_base.specs.Databases.{AreAscendingObjects, AreAscendingEdges, IsSized}
use Rattle.lore_base.specs.Databases.{IsLive, IsLinked, IsReached}
use Rattle.oem_labels.specs.Labels.{label_in}
use Rattle.dump_text.specs.Dumps.{IsVersion}

-- a number from 1 to the greatest
abbrev pub IsUpTo : ℕ → ℤ → Type 0
IsUpTo greatest value = (number : ℕ) × (value ≡ pos number) × (1 ≤ number) × (number ≤ greatest)

-- the objects ascend, and have numbers from 1 on, below the next number
pub record AreNumbered (tree : DumpTree) : Type 0 where
  pub ascend : AreAscendingObjects tree.objects
  pub numbered : All (λ object. (next : ℕ) → tree.next ≡ pos next → (1 ≤ object.0.0) × (object.0.0 < next)) tree.objects

-- an edge with the number of its label, which is the place of the text among the labels
abbrev pub numbered_edge : List (List ℕ) → Oid × List ℕ × Oid → Edge
numbered_edge labels entry = edge_of entry.0 (label_in labels entry.1) entry.2

abbrev pub numbered_edges : DumpTree → List Edge
numbered_edges tree = map (numbered_edge tree.labels) tree.edges

-- each limit of a database is kept
pub record AreFew (tree : DumpTree) : Type 0 where
  pub labels : length tree.labels ≤ LABELS
  pub names : length tree.names ≤ NAMES
  pub objects : length tree.objects ≤ OBJECTS
  pub edges : length tree.edges ≤ EDGES

-- labels, names and values have their forms, as they have in each text that is parsed
pub record AreFormed (tree : DumpTree) : Type 0 where
  pub labels : All IsLabel tree.labels
  pub names : All (λ entry. IsName entry.0) tree.names
  pub values : All (λ object. IsSized object.1) tree.objects

-- the version is read, and the next number and the node limit are in their ranges; limits and forms are kept; no label stands
-- twice; names, objects and edges ascend, edges by their labels' numbers; each edge has one of the labels, joins live
-- objects and leaves a complex one; and names lead to live objects, and to all of them along edges
pub record KeepsRules (tree : DumpTree) : Type 0 where
  pub version : IsVersion tree
  pub next : IsUpTo NEXT_NUMBER tree.next
  pub nodes : IsUpTo NODES tree.nodes
  pub few : AreFew tree
  pub formed : AreFormed tree
  pub labels : AllPairs (λ a b. a ≢ b) tree.labels
  pub names : IsNameTable tree.names
  pub objects : AreNumbered tree
  pub labelled : All (λ entry. Contains tree.labels entry.1) tree.edges
  pub edges : AreAscendingEdges (numbered_edges tree)
  pub linked : All (IsLinked tree.objects) (numbered_edges tree)
  pub named : All (λ entry. IsLive tree.objects entry.1) tree.names
  pub reached : All (λ object. IsReached tree.names (numbered_edges tree) object.0) tree.objects
