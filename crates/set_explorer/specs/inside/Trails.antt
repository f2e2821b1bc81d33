-- A search from the names on its way: the sets found so far, each with the path that it was found by.
use Rattle.std.specs.Prelude.{◌≡◌, ◌≢◌, ◌⊎◌, ℕ, ◌<◌, List, [], ◌∷◌, ◌++◌, map, Some, slice_get, All, AllPairs, Contains}
use Rattle.std.specs.List.{AllZip}
use Rattle.lore_base.specs.Lists.{Extends}
use Rattle.lore_base.specs.TargetSets.{LabelPath, LeadsTo, LeavesTo, IsStep}
use Rattle.set_explorer.specs.Types.{Oid, Label, Edge, Node, GuideNode}
use Rattle.lore_base.specs.PathOrder.{ComesBefore}
use Rattle.set_explorer.specs.Nodes.{sets_of, HasSet, AscendByLabel}
use Rattle.set_steps.specs.SetSteps.{AreSteps}
use Rattle.set_explorer.specs.inside.Entering.{AreEntered}

-- a set with the path that it was found by
pub record TrailStop : Type 0 where
  pub path : LabelPath
  pub set : List Oid

-- the path of a name alone, and a path with one label more
abbrev pub start_path : List ℕ → LabelPath
start_path name = record { name = name; word = [] }

abbrev pub longer : LabelPath → Label → LabelPath
longer path label = record { name = path.name; word = path.word ++ label ∷ [] }

-- the path is the other one or comes before it
abbrev pub ComesUpTo : LabelPath → LabelPath → Type 0
ComesUpTo path other = (path ≡ other) ⊎ ComesBefore path other

-- the set was found by a path that comes no later
pub record IsMet (trail : List TrailStop) (stop : TrailStop) : Type 0 where
  pub by : LabelPath
  pub found : Contains trail (record { path = by; set = stop.set })
  pub order : ComesUpTo by stop.path

-- the sets were found in this order, each by a path that leads to it
pub record IsTrail (names : List (List ℕ × Oid)) (edges : List Edge) (trail : List TrailStop) (sets : List (List Oid))
    : Type 0 where
  pub found : map (λ stop. stop.set) trail ≡ sets
  pub leads : All (λ stop. LeadsTo names edges stop.path stop.set) trail
  pub ascending : AllPairs (λ a b. ComesBefore a.path b.path) trail
  pub apart : AllPairs (λ a b. a ≢ b) sets

-- the edges of a node lead by each label to the step of its set
pub record HasRow (edges : List Edge) (nodes : List GuideNode) (node : GuideNode) : Type 0 where
  pub ascending : AscendByLabel node.edges
  pub sound : (label : Label) (next : Node) → Contains node.edges (label, next)
      → (set : List Oid) × HasSet nodes next set × IsStep edges node.set label set
  pub all : (label : Label) (oid : Oid) → LeavesTo edges node.set label oid
      → (next : Node) × Contains node.edges (label, next)

-- all steps of the stop were met
abbrev pub IsDone : List Edge → List TrailStop → TrailStop → Type 0
IsDone edges trail stop =
    (label : Label) (oid : Oid) → LeavesTo edges stop.set label oid
    → (next : List Oid) × IsStep edges stop.set label next
    × IsMet trail (record { path = longer stop.path label; set = next })

-- the names' objects were met, and all steps of the first n sets, whose nodes have their edges; what was found comes
-- before all that the next set leads to
pub record IsSearched (names : List (List ℕ × Oid)) (edges : List Edge) (nodes : List GuideNode) (n : ℕ)
    : Type 0 where
  pub trail : List TrailStop
  pub is : IsTrail names edges trail (sets_of nodes)
  pub started : All (λ named. IsMet trail (record { path = start_path named.0; set = named.1 ∷ [] })) names
  pub done : (place : ℕ) (stop : TrailStop) → place < n → slice_get trail place ≡ Some stop → IsDone edges trail stop
  pub rows : (place : ℕ) (node : GuideNode) → place < n → slice_get nodes place ≡ Some node
      → HasRow edges nodes node
  pub ahead : (stop : TrailStop) (label : Label) → slice_get trail n ≡ Some stop
      → All (λ earlier. ComesBefore earlier.path (longer stop.path label)) trail

-- the node at a place was given its edges: the steps of its set were entered
pub record IsExpanded (edges : List Edge) (old : List GuideNode) (place : ℕ) (new : List GuideNode) : Type 0 where
  pub set : List Oid
  pub at : slice_get (sets_of old) place ≡ Some set
  pub steps : List (Label × List Oid)
  pub are : AreSteps edges set steps
  pub between : List GuideNode
  pub kept : Extends old between
  pub entered : AreEntered (sets_of old) (map (λ step. step.1) steps) (sets_of between)
  pub row : List (Label × Node)
  pub placed : AllZip (λ step edge. (edge.0 ≡ step.0) × HasSet between edge.1 step.1) steps row
  pub sets : sets_of new ≡ sets_of between
  pub put : (node : GuideNode) → slice_get new place ≡ Some node → node.edges ≡ row
  pub others : (other : ℕ) → (other ≡ place → ⊥) → slice_get new other ≡ slice_get between other
