-- The nodes of a strong DataGuide (Goldman and Widom 1997): one for each set that a label path leads to, with an edge
-- for each step.
use Rattle.std.specs.Prelude.{◌≡◌, ◌↔◌, ℕ, ◌<◌, List, [], ◌∷◌, map, Some, All, AllPairs, Contains}
use Rattle.std.specs.Prelude.{slice_get}
use Rattle.std.specs.List.Sorted.{IsStrictlySortedBy}
use Rattle.std.specs.Map.{keys_of}
use Rattle.lore_base.specs.Bytes.{bytes_cmp}
use Rattle.lore_base.specs.TargetSets.{AreTargetSets, IsStep}
use Rattle.set_explorer.specs.Types.{Oid, Label, Edge, Node, GuideNode}

-- the node with a number
abbrev pub node_number : ℕ → Node
node_number number = record { 0 = number }

abbrev pub sets_of : List GuideNode → List (List Oid)
sets_of nodes = map (λ node. node.set) nodes

-- the node with this number has the set
abbrev pub HasSet : List GuideNode → Node → List Oid → Type 0
HasSet nodes node set = slice_get (sets_of nodes) node.0 ≡ Some set

-- the edges of a node ascend by label, so each label has at most one
abbrev pub AscendByLabel : List (Label × Node) → Type 0
AscendByLabel row = AllPairs (λ a b. a.0.0 < b.0.0) row

-- the node's edges lead by each label to the step of its set, where that is a node's set
pub record HasItsSteps (edges : List Edge) (nodes : List GuideNode) (node : GuideNode) : Type 0 where
  pub ascending : AscendByLabel node.edges
  pub exact : (label : Label) (next : Node) → Contains node.edges (label, next)
      ↔ ((set : List Oid) × HasSet nodes next set × IsStep edges node.set label set)

-- the nodes have the target sets of the database with these names and edges, each once, and lead to their steps
pub record AreNodesOf (names : List (List ℕ × Oid)) (edges : List Edge) (kept : List GuideNode) : Type 0 where
  pub nodes : AreTargetSets names edges (sets_of kept)
  pub steps : All (HasItsSteps edges kept) kept

-- the entry binds the name to the node whose set is the named object alone
pub record IsEntry (nodes : List GuideNode) (named : List ℕ × Oid) (entry : List ℕ × Node) : Type 0 where
  pub name : entry.0 ≡ named.0
  pub node : HasSet nodes entry.1 (named.1 ∷ [])

-- entries ascend by the bytes of their names
abbrev pub AreAscendingEntries : List (List ℕ × Node) → Type 0
AreAscendingEntries entries = IsStrictlySortedBy bytes_cmp (keys_of entries)
