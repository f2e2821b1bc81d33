-- Nodes that a search has found: those of the guide before that are met, and others.
use Rattle.std.specs.Prelude.{◌≡◌, ◌≢◌, ◌⊎◌, ℕ, ◌+◌, ◌<◌, ◌≤◌, List, ◌∷◌, ◌++◌, length, map}
use Rattle.std.specs.Prelude.{Some, slice_get, All, AllPairs, Contains}
use Rattle.set_explorer.specs.Types.{Oid, Label, Edge, Node, GuideNode, Origin, Kept, Fresh, DeltaNode}
use Rattle.set_explorer.specs.Types.{GuideFault, Nodes, Cells, NoMemory}
use Rattle.set_explorer.specs.declared.found.Found.{Found}
use Rattle.oem_set.specs.Sets.{hash_of}
use Rattle.set_explorer.specs.Nodes.{sets_of, node_number, HasSet}
use Rattle.set_explorer.specs.PlannedNodes.{origin_set, IsOrigin, nodes_then}
use Rattle.lore_base.specs.GuideLimits.{KeepLimits, cells}
use Rattle.set_explorer.specs.inside.HashLists.{listed}
use Rattle.set_explorer.specs.inside.Entering.{IsEntered, AreEntered}
use Rattle.lore_base.specs.Lists.{Extends}
use Rattle.set_explorer.specs.Touched.{IsTouched, IsRead}
use Rattle.set_steps.specs.SetSteps.{AreSteps, reads_of}
use Rattle.lore_base.specs.declared.limits.TheConstants.{CELLS}
use Rattle.std.specs.List.{AllZip}

-- the nodes that were found, each with its set
abbrev pub found_nodes : List GuideNode → Found → List GuideNode
found_nodes kept found = nodes_then kept found.nodes.items

abbrev pub found_sets : List GuideNode → Found → List (List Oid)
found_sets kept found = sets_of (found_nodes kept found)

-- each node before that was met has its place, and each fresh node stands under its hash
pub record IsFound (kept : List GuideNode) (found : Found) : Type 0 where
  pub apart : AllPairs (λ a b. a ≢ b) (sets_of kept)
  pub many : length found.places.items ≡ length kept
  pub origins : All (λ planned. IsOrigin kept planned.origin) found.nodes.items
  pub placed : (place : ℕ) (planned : DeltaNode) (node : Node)
      → slice_get found.nodes.items place ≡ Some planned → planned.origin ≡ Kept node
      → slice_get found.places.items node.0 ≡ Some (Some (node_number place))
  pub there : (k : ℕ) (node : Node) → slice_get found.places.items k ≡ Some (Some node)
      → (planned : DeltaNode) × (slice_get found.nodes.items node.0 ≡ Some planned)
      × (planned.origin ≡ Kept (node_number k))
  pub hashed : (place : ℕ) (planned : DeltaNode) (set : List Oid)
      → slice_get found.nodes.items place ≡ Some planned → planned.origin ≡ Fresh set
      → Contains (listed found.fresh (hash_of set)) (node_number place)
  pub fresh : (place : ℕ) (planned : DeltaNode) (set : List Oid)
      → slice_get found.nodes.items place ≡ Some planned → planned.origin ≡ Fresh set
      → ¬ Contains (sets_of kept) set
  pub counted : found.cells ≡ cells (found_sets kept found)

-- which limit the next set passes, where the sets before it keep both
abbrev pub Passes : GuideFault → ℕ → List (List Oid) → List Oid → Type 0
Passes Nodes limit sets next = limit ≤ length sets
Passes Cells limit sets next = (length sets < limit) × (CELLS < cells sets + length next)
Passes NoMemory limit sets next = ⊥

-- the next set is not there, and passes a limit; or memory is refused
abbrev pub Stops : GuideFault → ℕ → List (List Oid) → List Oid → Type 0
Stops NoMemory limit sets next = Unit {0}
Stops Nodes limit sets next = (¬ Contains sets next) × Passes Nodes limit sets next
Stops Cells limit sets next = (¬ Contains sets next) × Passes Cells limit sets next

-- some sets are entered, and the next one passes a limit
pub record StopsAt (fault : GuideFault) (limit : ℕ) (old xs : List (List Oid)) : Type 0 where
  pub done : List (List Oid)
  pub next : List Oid
  pub others : List (List Oid)
  pub is : xs ≡ done ++ next ∷ others
  pub found : List (List Oid)
  pub entered : AreEntered old done found
  pub fresh : ¬ Contains found next
  pub fit : KeepLimits limit found
  pub passes : Passes fault limit found next

abbrev pub AreStopped : GuideFault → ℕ → List (List Oid) → List (List Oid) → Type 0
AreStopped NoMemory limit old xs = Unit {0}
AreStopped Nodes limit old xs = StopsAt Nodes limit old xs
AreStopped Cells limit old xs = StopsAt Cells limit old xs

-- the sets of targets
abbrev pub target_sets : {K : Type 0} → List GuideNode → List (K × Origin) → List (List Oid)
target_sets kept targets = map (λ target. origin_set kept target.1) targets

abbrev pub steps_of : List GuideNode → List (Label × Origin) → List (Label × List Oid)
steps_of kept targets = map (λ target. (target.0, origin_set kept target.1)) targets

-- the node is fresh and has the set
abbrev pub IsFreshAt : List DeltaNode → Node → List Oid → Type 0
IsFreshAt nodes node set =
    (planned : DeltaNode) × (slice_get nodes node.0 ≡ Some planned) × (planned.origin ≡ Fresh set)

-- which limit one set more passes
abbrev pub IsRoomFault : GuideFault → ℕ → ℕ → ℕ → ℕ → Type 0
IsRoomFault Nodes limit count cells size = limit ≤ count
IsRoomFault Cells limit count cells size = (count < limit) × (CELLS < cells + size)
IsRoomFault NoMemory limit count cells size = ⊥

-- the set of an origin is entered, and is that of the node at the place
pub record Enters (kept : List GuideNode) (limit : ℕ) (old : Found) (origin : Origin) (place : Node)
    (new : Found) : Type 0 where
  pub found : IsFound kept new
  pub fit : KeepLimits limit (found_sets kept new)
  pub entered : IsEntered (found_sets kept old) (origin_set kept origin) (found_sets kept new)
  pub has : HasSet (found_nodes kept new) place (origin_set kept origin)
  pub grown : Extends (found_nodes kept old) (found_nodes kept new)

-- the sets of targets are entered one after another, and the row has their keys with their nodes
pub record EntersAll {K : Type 0} (kept : List GuideNode) (limit : ℕ) (old : Found)
    (targets : List (K × Origin)) (row : List (K × Node)) (new : Found) : Type 0 where
  pub found : IsFound kept new
  pub fit : KeepLimits limit (found_sets kept new)
  pub entered : AreEntered (found_sets kept old) (target_sets kept targets) (found_sets kept new)
  pub placed : AllZip (λ target edge. (edge.0 ≡ target.0)
      × HasSet (found_nodes kept new) edge.1 (origin_set kept target.1)) targets row
  pub grown : Extends (found_nodes kept old) (found_nodes kept new)

-- the set was read exactly where it is touched, all of it or what it was extended by
abbrev pub Costs : List (List Oid) → List Oid → List Oid → List Edge → List Oid → ℕ → ℕ → Type 0
Costs kept dirty grown edges set before now =
    (IsTouched kept dirty set
    × ((read : List Oid) × IsRead kept dirty grown set read × (now ≡ before + reads_of edges read)))
    ⊎ ((¬ IsTouched kept dirty set) × (now ≡ before))

-- one of the steps of the set at a place passes a limit; the set was read where it is touched
pub record HaltsAt (fault : GuideFault) (limit : ℕ) (edges : List Edge) (kept : List (List Oid))
    (dirty grown : List Oid) (sets : List (List Oid)) (place before now : ℕ) : Type 0 where
  pub set : List Oid
  pub at : slice_get sets place ≡ Some set
  pub steps : List (Label × List Oid)
  pub are : AreSteps edges set steps
  pub stops : StopsAt fault limit sets (map (λ step. step.1) steps)
  pub costs : Costs kept dirty grown edges set before now

abbrev pub IsHalted : GuideFault → ℕ → List Edge → List (List Oid) → List Oid → List Oid → List (List Oid)
    → ℕ → ℕ → ℕ → Type 0
IsHalted NoMemory limit edges kept dirty grown sets place before now = Unit {0}
IsHalted Nodes limit edges kept dirty grown sets place before now =
    HaltsAt Nodes limit edges kept dirty grown sets place before now
IsHalted Cells limit edges kept dirty grown sets place before now =
    HaltsAt Cells limit edges kept dirty grown sets place before now
