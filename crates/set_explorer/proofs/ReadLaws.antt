-- Targets read from the graph or taken from a node's edges, and what was read for them.
use Rattle.std.proofs.Common.{◌≡◌, ℕ, ◌<◌, inl, inr, List, [], ◌∷◌, length, map, All, Contains, Some, refl, sym, ap}
use Rattle.std.proofs.Common.{◌∙◌, subst}
use Rattle.std.specs.List.{slice_get}
use Rattle.std.proofs.lemmas.List.Elements.{All-map, All-contains}
use Rattle.list_laws.proofs.PlaceLaws.{Contains-from_place}
use Rattle.set_explorer.specs.Types.{Oid, Label, Node, GuideNode, Origin, Kept, Fresh, DeltaNode}
use Rattle.set_explorer.specs.declared.found.Found.{Found}
use Rattle.set_explorer.specs.Touched.{Meet}
use Rattle.set_explorer.specs.Nodes.{sets_of}
use Rattle.set_explorer.specs.PlannedNodes.{origin_set, IsOrigin}
use Rattle.set_explorer.specs.Touched.{IsTouched}
use Rattle.set_explorer.specs.inside.Founds.{IsFound, found_sets, steps_of}
use Rattle.set_steps.proofs.PlaceLaws.{at-map, at-unmap}
use Rattle.set_explorer.proofs.FoundLaws.{kept-set, sets-then}

abbrev as_fresh : Label × List Oid → Label × Origin
as_fresh step = (step.0, Fresh step.1)

pub fresh-steps : (kept : List GuideNode) (row : List (Label × List Oid)) → steps_of kept
    (map (λ step. (step.0, Fresh step.1)) row) ≡ row
fresh-steps kept [] = refl
fresh-steps kept (step ∷ row) = ap (λ l. step ∷ l) (fresh-steps kept row)

pub fresh-origins : (kept : List GuideNode) (row : List (Label × List Oid))
    → All (λ target. IsOrigin kept target.1) (map as_fresh row)
fresh-origins kept row = All-map (λ (t : Label × Origin). IsOrigin kept t.1) as_fresh row (λ k d within. tt)

-- a node before has its own set
pub kept-is : (kept : List GuideNode) (node : Node) (there : GuideNode) → node.0 < length kept
    → slice_get kept node.0 ≡ Some there
    → origin_set kept (Kept node) ≡ there.set
kept-is kept node there within at =
    let both : Some (origin_set kept (Kept node)) ≡ Some there.set =
    sym (kept-set kept node within) ∙ at-map (λ (n : GuideNode). n.set) kept node.0 there at in
    cc

-- a planned node has the set of its origin
pub origin-is : (kept : List GuideNode) (found : Found) → (place : ℕ) (origin : Origin)
    → slice_get (map (λ planned. planned.origin) found.nodes.items) place ≡ Some origin
    → (set : List Oid) → slice_get (found_sets kept found) place ≡ Some set → origin_set kept origin ≡ set
origin-is kept found place origin at set there =
    let from = at-unmap (λ (p : DeltaNode). p.origin) found.nodes.items place origin at in
    let own = at-map (λ (p : DeltaNode). origin_set kept p.origin) found.nodes.items place from.0 from.1 in
    let both : Some (origin_set kept from.0.origin) ≡ Some set =
    sym own ∙ sym (ap (λ (l : List (List Oid)). slice_get l place) (sets-then kept found.nodes.items)) ∙ there in
    let same : origin_set kept from.0.origin ≡ set = cc in
    ap (origin_set kept) (sym from.2) ∙ same

pub origin-within : (kept : List GuideNode) (found : Found) → IsFound kept found → (place : ℕ) (origin : Origin)
    → slice_get (map (λ planned. planned.origin) found.nodes.items) place ≡ Some origin → IsOrigin kept origin
origin-within kept found is place origin at =
    let from = at-unmap (λ (p : DeltaNode). p.origin) found.nodes.items place origin at in
    subst (IsOrigin kept) from.2
    (All-contains (λ (p : DeltaNode). IsOrigin kept p.origin) found.nodes.items from.0 is.origins
    (Contains-from_place found.nodes.items place from.0 from.1))

pub fresh-touched : (kept : List GuideNode) (found : Found) → IsFound kept found → (place : ℕ) (own : List Oid)
    → slice_get (map (λ planned. planned.origin) found.nodes.items) place ≡ Some (Fresh own) → ¬ Contains
    (sets_of kept) own
fresh-touched kept found is place own at =
    let from = at-unmap (λ (p : DeltaNode). p.origin) found.nodes.items place (Fresh own) at in
    is.fresh place from.0 own from.1 from.2

-- a node before without dirty members is not touched
pub clean-untouched : (kept : List GuideNode) (dirty : List Oid) (node : Node) → node.0 < length kept
    → (¬ Meet (origin_set kept (Kept node)) dirty) → ¬ IsTouched (sets_of kept) dirty (origin_set kept (Kept node))
clean-untouched kept dirty node within clean touched = elim touched [
  | inl new ↦ new (Contains-from_place (sets_of kept) node.0 (origin_set kept (Kept node)) (kept-set kept node within))
  | inr meets ↦ clean meets
]
