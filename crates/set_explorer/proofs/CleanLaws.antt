-- A node's edges tell the steps of its set.
use Rattle.std.proofs.Common.{◌≡◌, ℕ, ◌<◌, List, [], length, map, All, Contains, Some, sym, ◌∙◌, subst, arith}
use Rattle.std.specs.List.{slice_get}
use Rattle.std.proofs.lemmas.List.{length-map}
use Rattle.std.proofs.lemmas.List.Elements.{All-contains, All-map}
use Rattle.std.proofs.lemmas.Option.{slice_get_within}
use Rattle.set_explorer.specs.Types.{Oid, Label, Edge, Node, GuideNode, Origin, Kept}
use Rattle.lore_base.specs.TargetSets.{IsStep, LeavesTo, IsLedTo}
use Rattle.set_explorer.specs.Nodes.{AreNodesOf, HasItsSteps, HasSet, AscendByLabel, sets_of, node_number}
use Rattle.set_explorer.specs.PlannedNodes.{origin_set, IsOrigin}
use Rattle.set_steps.specs.SetSteps.{AreSteps}
use Rattle.set_explorer.specs.inside.Trails.{longer}
use Rattle.set_explorer.specs.inside.Founds.{steps_of}
use Rattle.set_explorer.specs.inside.Gains.{IsThere}
use Rattle.set_steps.proofs.PlaceLaws.{at-map}
use Rattle.lore_base.proofs.MemberLaws.{Contains-none}
use Rattle.list_laws.proofs.MemberLaws.{All-from_members, Contains-map}
use Rattle.list_laws.proofs.PlaceLaws.{Contains-from_place, place_of_member}
use Rattle.list_laws.proofs.PartLaws.{map-map}
use Rattle.set_explorer.proofs.StopLaws.{leads-step}
use Rattle.set_steps.proofs.PairLaws.{AllPairs-map}
use Rattle.set_explorer.proofs.StepLaws.{step_of, step_is}
use Rattle.set_explorer.proofs.FoundLaws.{kept-set}

module _ (kept : List GuideNode) (names : List (List ℕ × Oid)) (before : List Edge) (stands : AreNodesOf names before kept)
    (place : Node) (node : GuideNode) (at : slice_get kept place.0 ≡ Some node) where
  its-steps : HasItsSteps before kept node
  its-steps = All-contains (HasItsSteps before kept) kept node stands.steps (Contains-from_place kept place.0 node at)

  -- the set at the end of an edge
  edge-step : (label : Label) (next : Node) → Contains node.edges (label, next)
      → (set : List Oid) × HasSet kept next set × IsStep before node.set label set
  edge-step label next there = (its-steps.exact label next).0 there

  next-within : (label : Label) (next : Node) → Contains node.edges (label, next) → next.0 < length kept
  next-within label next there =
      let step = edge-step label next there in
      omega (arith, slice_get_within (sets_of kept) next.0 step.0 step.1, length-map kept (λ (n : GuideNode). n.set))

  edge-set : (label : Label) (next : Node) → Contains node.edges (label, next)
      → IsStep before node.set label (origin_set kept (Kept next))
  edge-set label next there =
      let step = edge-step label next there in
      let both : Some step.0 ≡ Some (origin_set kept (Kept next)) = sym step.1 ∙ kept-set kept next
      (next-within label next there) in
      let same : step.0 ≡ origin_set kept (Kept next) = cc in
      subst (λ (s : List Oid). IsStep before node.set label s) same step.2

  led : (set : List Oid) → Contains (sets_of kept) set → IsLedTo names before set
  led set there = (stands.nodes.exact set).0 there

  abbrev as_step : Label × Node → Label × List Oid
  as_step edge = (edge.0, origin_set kept (Kept edge.1))

  abbrev as_target : Label × Node → Label × Origin
  as_target edge = (edge.0, Kept edge.1)

  kept-within : All (λ edge. edge.1.0 < length kept) node.edges
  kept-within = All-from_members (λ (e : Label × Node). e.1.0 < length kept) node.edges (λ e there. next-within e.0 e.1 there)

  pub kept-origins : All (λ target. IsOrigin kept target.1) (map as_target node.edges)
  kept-origins = All-map (λ (t : Label × Origin). IsOrigin kept t.1) as_target node.edges kept-within

  -- whatever leaves the set has an edge
  edge-all : (label : Label) (oid : Oid) → LeavesTo before node.set label oid → (next : Node) × Contains node.edges
      (label, next)
  edge-all label oid leaves =
      let step = step_is before node.set label in
      let set = step_of before node.set label in
      let one : Contains set oid = (step.exact oid).1 leaves in
      let own = led node.set (Contains-from_place (sets_of kept) place.0 node.set (at-set place.0 node at)) in
      let path = leads-step names before own.0 node.set label set own.1 step
      (λ none. absurd (nothing (subst (λ (l : List Oid). Contains l oid) none one))) in
      let there = place_of_member (sets_of kept) set ((stands.nodes.exact set).1 (longer own.0 label, path)) in
      (node_number there.0, (its-steps.exact label (node_number there.0)).1 (set, there.1, step))
    where
      at-set : (k : ℕ) (n : GuideNode) → slice_get kept k ≡ Some n → slice_get (sets_of kept) k ≡ Some
          n.set
      at-set k n is = at-map (λ (m : GuideNode). m.set) kept k n is

      nothing : {x : Oid} → Contains [] x → ⊥
      nothing {x} none = Contains-none x none

  pub kept-ascend : AscendByLabel node.edges
  kept-ascend = its-steps.ascending

  pub kept-there : All (IsThere kept) node.edges
  kept-there = All-from_members (IsThere kept) node.edges (λ e there. (next-within e.0 e.1 there, (edge-set e.0 e.1 there).ascending))

  -- the steps of the node's set
  pub kept-row : AreSteps before node.set (map as_step node.edges)
  kept-row = record {
    ascend = AllPairs-map as_step (λ (a b : Label × Node). a.0.0 < b.0.0) (λ (a b : Label × List Oid). a.0.0 < b.0.0)
        (λ a b less. less) node.edges its-steps.ascending;
    sets = All-map (λ (s : Label × List Oid). IsStep before node.set s.0 s.1) as_step node.edges
        (All-from_members (λ (e : Label × Node). IsStep before node.set e.0 (origin_set kept (Kept e.1))) node.edges
        (λ e there. edge-set e.0 e.1 there));
    some = All-map (λ (s : Label × List Oid). (s.1 ≡ []) → ⊥) as_step node.edges
        (All-from_members (λ (e : Label × Node). (origin_set kept (Kept e.1) ≡ []) → ⊥) node.edges
        (λ e there. (led (origin_set kept (Kept e.1)) (Contains-from_place (sets_of kept) e.1.0 (origin_set kept (Kept e.1))
        (kept-set kept e.1 (next-within e.0 e.1 there)))).1.some));
    all = λ label oid leaves. (
        let edge = edge-all label oid leaves in
        (origin_set kept (Kept edge.0), Contains-map as_step node.edges (label, edge.0) edge.1));
  }

  -- as those of its edges' nodes
  pub kept-steps : AreSteps before node.set (steps_of kept (map as_target node.edges))
  kept-steps =
      subst (λ (l : List (Label × List Oid)). AreSteps before node.set l)
      (sym (map-map as_target (λ (t : Label × Origin). (t.0, origin_set kept t.1)) node.edges)) kept-row
