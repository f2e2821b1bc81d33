-- A node is expanded: its targets are entered, and it gets their nodes as edges.
use Rattle.std.proofs.Common.{◌≡◌, ℕ, ◌<◌, List, [], length, get_or, Some, sym, ap, subst, arith}
use Rattle.std.proofs.Common.{length-append}
use Rattle.std.specs.List.{slice_get}
use Rattle.std.proofs.lemmas.List.{length-map}
use Rattle.std.proofs.lemmas.Option.{slice_get-get_or}
use Rattle.list_laws.proofs.ZipLaws.{AllZip-map}
use Rattle.list_laws.proofs.PartLaws.{map-map}
use Rattle.set_explorer.specs.Types.{Oid, Label, Edge, Node, GuideNode, Origin, GuideFault, Nodes, Cells, NoMemory}
use Rattle.set_explorer.specs.declared.found.Found.{Found}
use Rattle.set_explorer.specs.Nodes.{sets_of, HasSet}
use Rattle.set_explorer.specs.PlannedNodes.{origin_set, node_then}
use Rattle.set_steps.specs.SetSteps.{AreSteps}
use Rattle.set_explorer.specs.inside.Entering.{AreEntered}
use Rattle.set_explorer.specs.inside.Trails.{IsExpanded}
use Rattle.set_explorer.specs.inside.Founds.{found_nodes, found_sets, steps_of, target_sets, Costs, EntersAll}
use Rattle.set_explorer.specs.inside.Founds.{AreStopped, StopsAt, IsHalted, HaltsAt}
use Rattle.set_explorer.proofs.SearchedLaws.{expanded-more}

pub found-at : (kept : List GuideNode) (found : Found) (place : ℕ) → place < length found.nodes.items
    → slice_get (found_sets kept found) place ≡ Some (get_or (found_sets kept found) place [])
found-at kept found place within =
    slice_get-get_or (found_sets kept found) place []
    (omega (
      arith,
      within,
      length-map (found_nodes kept found) (λ (n : GuideNode). n.set),
      length-map
          found.nodes.items (node_then kept),
    ))

abbrev step_for : List GuideNode → Label × Origin → Label × List Oid
step_for kept target = (target.0, origin_set kept target.1)

pub expanded : (kept : List GuideNode) (edges : List Edge) (limit : ℕ) (old between new : Found) (place : ℕ)
    (set : List Oid)
    (targets : List (Label × Origin)) (row : List (Label × Node)) → slice_get (found_sets kept old) place ≡ Some set
    → AreSteps edges set (steps_of kept targets) → EntersAll kept limit old targets row between
    → found_sets kept new ≡ found_sets kept between
    → ((node : GuideNode) → slice_get (found_nodes kept new) place ≡ Some node → node.edges ≡ row)
    → ((other : ℕ) → (other ≡ place → ⊥) → slice_get (found_nodes kept new) other ≡ slice_get
    (found_nodes kept between) other)
    → IsExpanded edges (found_nodes kept old) place (found_nodes kept new)
expanded kept edges limit old between new place set targets row at are enters sets put others = record {
  set = set;
  at = at;
  steps = steps_of kept targets;
  are = are;
  between = found_nodes kept between;
  kept = enters.grown;
  entered = subst (λ (l : List (List Oid)). AreEntered (found_sets kept old) l (found_sets kept between))
      (sym (map-map (step_for kept) (λ (s : Label × List Oid). s.1) targets)) enters.entered;
  row = row;
  placed = AllZip-map (λ (s : Label × List Oid) (e : Label × Node). (e.0 ≡ s.0) × HasSet (found_nodes kept between) e.1 s.1) (step_for kept) targets
      row enters.placed;
  sets = sets;
  put = put;
  others = others;
}

halts : (fault : GuideFault) (limit : ℕ) (edges : List Edge) (kept : List GuideNode) (dirty grown : List Oid)
    (sets : List (List Oid))
    (place before now : ℕ) (set : List Oid) (targets : List (Label × Origin)) → slice_get sets place ≡ Some set
    → AreSteps edges set (steps_of kept targets) → Costs (sets_of kept) dirty grown edges set before now
    → StopsAt fault limit sets (target_sets kept targets) → HaltsAt fault limit edges (sets_of kept) dirty grown sets
    place before now
halts fault limit edges kept dirty grown sets place before now set targets at are costs stops = record {
  set = set;
  at = at;
  steps = steps_of kept targets;
  are = are;
  stops = subst (StopsAt fault limit sets) (sym (map-map (step_for kept) (λ (s : Label × List Oid). s.1) targets))
      stops;
  costs = costs;
}

pub halted : (fault : GuideFault) (limit : ℕ) (edges : List Edge) (kept : List GuideNode) (dirty grown : List Oid)
    (sets : List (List Oid))
    (place before now : ℕ) (set : List Oid) (targets : List (Label × Origin)) → slice_get sets place ≡ Some set
    → AreSteps edges set (steps_of kept targets) → Costs (sets_of kept) dirty grown edges set before now
    → AreStopped fault limit sets (target_sets kept targets) → IsHalted fault limit edges (sets_of kept) dirty grown
    sets place before now
halted NoMemory limit edges kept dirty grown sets place before now set targets at are costs stops = tt
halted Nodes limit edges kept dirty grown sets place before now set targets at are costs stops =
    halts Nodes limit edges kept dirty grown sets place before now set targets at are costs stops
halted Cells limit edges kept dirty grown sets place before now set targets at are costs stops =
    halts Cells limit edges kept dirty grown sets place before now set targets at are costs stops

pub place-stays : (kept : List GuideNode) (limit : ℕ) (old new : Found) (targets : List (Label × Origin))
    (row : List (Label × Node))
    (place : ℕ) → EntersAll kept limit old targets row new → place < length old.nodes.items
    → place < length new.nodes.items
place-stays kept limit old new targets row place enters within =
    omega (
      arith,
      within,
      ap length enters.grown.1,
      length-append (found_nodes kept old) enters.grown.0,
      length-map old.nodes.items (node_then kept),
      length-map new.nodes.items (node_then kept),
    )

pub grown-passed : (kept : List GuideNode) (edges : List Edge) (old new : Found) (n : ℕ) → IsExpanded edges
    (found_nodes kept old) n (found_nodes kept new)
    → n < length old.nodes.items → n < length new.nodes.items
grown-passed kept edges old new n now within =
    omega (
      arith,
      within,
      expanded-more edges (found_nodes kept old) (found_nodes kept new) n now,
      length-map old.nodes.items (node_then kept),
      length-map new.nodes.items (node_then kept),
    )
