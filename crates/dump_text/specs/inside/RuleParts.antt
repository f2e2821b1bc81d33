-- The rules of dump texts in the parts in which they are tested, and the changes that come of a text.
use Rattle.std.specs.Prelude.{◌≡◌, ◌≢◌, ℕ, pos, ◌≤◌, List, [], All, AllPairs, Contains}
use Rattle.dump_text.specs.Types.{Edge, Changes, NODES, NEXT_NUMBER, DumpTree}
use Rattle.lore_base.specs.Names.{IsNameTable}
use Rattle.lore_base.specs.Databases.{AreAscendingEdges, IsLive, IsLinked, IsReached}
use Rattle.dump_text.specs.Dumps.{IsVersion}
use Rattle.dump_text.specs.Rules.{IsUpTo, AreNumbered, AreFew, AreFormed, numbered_edges}

-- the version is read, and the numbers are in their ranges
pub record KeepsHead (tree : DumpTree) : Type 0 where
  pub version : IsVersion tree
  pub next : IsUpTo NEXT_NUMBER tree.next
  pub nodes : IsUpTo NODES tree.nodes

-- and these are the numbers
pub record IsHead (tree : DumpTree) (next nodes : ℕ) : Type 0 where
  pub version : IsVersion tree
  pub next_is : tree.next ≡ pos next
  pub next_ranged : (1 ≤ next) × (next ≤ NEXT_NUMBER)
  pub nodes_is : tree.nodes ≡ pos nodes
  pub nodes_ranged : (1 ≤ nodes) × (nodes ≤ NODES)

-- names and objects ascend, and names lead to live objects
pub record KeepsOrder (tree : DumpTree) : Type 0 where
  pub names : IsNameTable tree.names
  pub objects : AreNumbered tree
  pub named : All (λ entry. IsLive tree.objects entry.1) tree.names

-- limits and forms are kept, and that order
pub record KeepsLists (tree : DumpTree) : Type 0 where
  pub few : AreFew tree
  pub formed : AreFormed tree
  pub order : KeepsOrder tree

-- the edges ascend and join objects, and all objects are reached
pub record IsGraph (tree : DumpTree) : Type 0 where
  pub edges : AreAscendingEdges (numbered_edges tree)
  pub linked : All (IsLinked tree.objects) (numbered_edges tree)
  pub reached : All (λ object. IsReached tree.names (numbered_edges tree) object.0) tree.objects

-- labels stand once, edges have them, and what they join is the graph
pub record KeepsEdges (tree : DumpTree) : Type 0 where
  pub labels : AllPairs (λ a b. a ≢ b) tree.labels
  pub labelled : All (λ entry. Contains tree.labels entry.1) tree.edges
  pub graph : IsGraph tree

-- all of the text comes with the changes, and nothing else changes
pub record AreChanges (tree : DumpTree) (edges : List Edge) (changes : Changes) : Type 0 where
  pub made : changes.made ≡ tree.objects
  pub added : changes.added ≡ edges
  pub named : changes.named ≡ tree.names
  pub labels : changes.labels ≡ tree.labels
  pub no_values : changes.values ≡ []
  pub no_removed : changes.removed ≡ []
  pub no_unnamed : changes.unnamed ≡ []
