-- Laws of target sets and guides.
use Rattle.std.specs.Prelude.{◌≡◌, ◌↔◌, ℕ, List, [], ◌∷◌, ◌++◌, Contains}
use Rattle.lore_base.specs.declared.change_set.Changes.{Changes}
use Rattle.lore_base.specs.Databases.{OemGraph, IsReached}
use Rattle.lore_base.specs.ChangeSets.{IsGraphAfter}
use Rattle.lore_base.specs.TargetSets.{LabelPath, IsTargetSet, IsStep, LeadsTo, AreTargetSets}
use Rattle.lore_base.specs.PathOrder.{AreInPathOrder}
use Rattle.lore_base.specs.GuideLimits.{KeepLimits, FitsGuide, ExceedsNodes, ExceedsCells}
use Rattle.dataguide.specs.Types.{Oid, Label, Edge, Node}
use Rattle.set_explorer.specs.Touched.{ReadsTouched, ReadsSome, ReadsWithin}
use Rattle.dataguide.specs.Guides.{GuideGraph, StandsFor, IsOrderedGuide, HasEdge}
use Rattle.set_explorer.specs.Nodes.{sets_of, HasSet}

-- the target set of a longer word is the step of the shorter word's
abbrev pub LongerWordsStep : Type 0
LongerWordsStep =
    (edges : List Edge) (start : Oid) (word : List Label) (label : Label) (set next : List Oid)
    → IsTargetSet edges start word set
    → IsTargetSet edges start (word ++ label ∷ []) next ↔ IsStep edges set label next

-- a database has one guide whose nodes stand in the order of their least paths
abbrev pub HasOneOrderedGuide : Type 0
HasOneOrderedGuide =
    (names : List (List ℕ × Oid)) (edges : List Edge) (guide other : GuideGraph)
    → IsOrderedGuide guide names edges → IsOrderedGuide other names edges → guide ≡ other

-- the node with the set has an edge with the label to the node with the next set
abbrev pub HasSetEdge : GuideGraph → List Oid → Label → List Oid → Type 0
HasSetEdge guide set label next =
    (node : Node) × (there : Node) × HasSet guide.nodes node set × HasSet guide.nodes there next
    × HasEdge guide.nodes node label there

-- the name is bound to the node with the set
abbrev pub BeginsAt : GuideGraph → List ℕ → List Oid → Type 0
BeginsAt guide name set = (node : Node) × Contains guide.entries (name, node) × HasSet guide.nodes node set

-- the guides are the same but for the numbers of their nodes: they have the same sets, and nodes with the same sets
-- lead by the same labels to nodes with the same sets, and have the same names
pub record AreAlike (guide other : GuideGraph) : Type 0 where
  pub sets : (set : List Oid) → Contains (sets_of guide.nodes) set ↔ Contains (sets_of other.nodes) set
  pub edges : (set : List Oid) (label : Label) (next : List Oid)
      → HasSetEdge guide set label next ↔ HasSetEdge other set label next
  pub entries : (name : List ℕ) (set : List Oid) → BeginsAt guide name set ↔ BeginsAt other name set

-- all guides of a database are alike
abbrev pub HasAlikeGuides : Type 0
HasAlikeGuides =
    (names : List (List ℕ × Oid)) (edges : List Edge) (guide other : GuideGraph)
    → StandsFor guide names edges → StandsFor other names edges → AreAlike guide other

-- a database fits a guide exactly where the nodes of its guide keep the limits
abbrev pub NodesAreCounted : Type 0
NodesAreCounted =
    (limit : ℕ) (names : List (List ℕ × Oid)) (edges : List Edge) (guide : GuideGraph)
    → StandsFor guide names edges → FitsGuide limit names edges ↔ KeepLimits limit (sets_of guide.nodes)

-- of what leaves the objects that names walk to along the first edges, both lists have the same
abbrev pub AgreeWhereReached : List (List ℕ × Oid) → List Edge → List Edge → Type 0
AgreeWhereReached names edges others =
    (edge : Edge) → IsReached names edges edge.parent → Contains edges edge ↔ Contains others edge

-- label paths lead to the same sets along the one edges and along the others, so these have the same guides
pub record HaveSameTargets (names : List (List ℕ × Oid)) (edges others : List Edge) : Type 0 where
  pub leads : (path : LabelPath) (set : List Oid) → LeadsTo names edges path set ↔ LeadsTo names others path set
  pub fits : (limit : ℕ) → FitsGuide limit names edges ↔ FitsGuide limit names others
  pub nodes : (limit : ℕ) → ExceedsNodes limit names edges ↔ ExceedsNodes limit names others
  pub cells : (limit : ℕ) → ExceedsCells limit names edges ↔ ExceedsCells limit names others
  pub guides : (guide : GuideGraph) → StandsFor guide names edges ↔ StandsFor guide names others
  pub order : (sets : List (List Oid)) → AreInPathOrder names edges sets ↔ AreInPathOrder names others sets

-- edges that leave what no name walks to lead to no target set
abbrev pub ReachedEdgesDecide : Type 0
ReachedEdgesDecide =
    (names : List (List ℕ × Oid)) (edges others : List Edge)
    → AgreeWhereReached names edges others → HaveSameTargets names edges others

-- what vanishes with changes leads to no target set: the edges then and those that are left lead to the same sets
abbrev pub VanishedEdgesLeadNowhere : Type 0
VanishedEdgesLeadNowhere =
    (before : OemGraph) (changes : Changes) (after : OemGraph) (is : IsGraphAfter before changes after)
    → HaveSameTargets after.names is.between after.edges

-- what is read for a guide is within the reads of the touched sets, also of those that more objects touch
abbrev pub ReadsAreWithin : Type 0
ReadsAreWithin =
    (kept : List (List Oid)) (dirty grown more : List Oid) (names : List (List ℕ × Oid)) (edges : List Edge)
    (sets : List (List Oid)) (before now : ℕ)
    → AreTargetSets names edges sets → ReadsTouched kept dirty grown edges sets before now
    → ((oid : Oid) → Contains dirty oid → Contains more oid) → ReadsWithin kept more names edges before now

-- and so is what is read where the guide is refused
abbrev pub SomeReadsAreWithin : Type 0
SomeReadsAreWithin =
    (kept : List (List Oid)) (dirty grown more : List Oid) (limit : ℕ) (names : List (List ℕ × Oid)) (edges : List Edge)
    (before now : ℕ)
    → ReadsSome kept dirty grown limit names edges before now
    → ((oid : Oid) → Contains dirty oid → Contains more oid) → ReadsWithin kept more names edges before now
