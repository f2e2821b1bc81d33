-- All guides of a database are the same but for the numbers of their nodes.
use Rattle.std.proofs.Common.{◌≡◌, ℕ, List, [], ◌∷◌, Some, Contains, sym, ◌∙◌, subst}
use Rattle.std.proofs.lemmas.List.Elements.{All-contains}
use Rattle.list_laws.proofs.PlaceLaws.{Contains-from_place, place_of_member}
use Rattle.dataguide.specs.Types.{Oid, Label, Edge, Node, GuideNode}
use Rattle.lore_base.specs.TargetSets.{IsStep}
use Rattle.dataguide.specs.Guides.{GuideGraph, StandsFor, HasEdge}
use Rattle.set_explorer.specs.Nodes.{sets_of, HasSet, HasItsSteps, IsEntry}
use Rattle.dataguide.specs.GuideLaws.{HasSetEdge, BeginsAt, HasAlikeGuides}
use Rattle.set_steps.proofs.PlaceLaws.{at-map, at-unmap, zip-left, zip-right}

module _ (names : List (List ℕ × Oid)) (edges : List Edge) (guide other : GuideGraph)
    (first : StandsFor guide names edges) (second : StandsFor other names edges) where
  sets-within : (set : List Oid) → Contains (sets_of guide.nodes) set → Contains (sets_of other.nodes) set
  sets-within set there = (second.nodes.exact set).1 ((first.nodes.exact set).0 there)

  -- the other guide's node with the set
  node-there : (node : Node) (set : List Oid) → HasSet guide.nodes node set
      → (there : Node) × HasSet other.nodes there set
  node-there node set has =
      let at =
      place_of_member (sets_of other.nodes) set (sets-within set (Contains-from_place (sets_of guide.nodes) node.0 set has)) in
      (record { 0 = at.0 }, at.1)

  -- an edge leads to the step of the set
  is-step : (node there : Node) (set : List Oid) (label : Label) (next : List Oid) → HasSet guide.nodes node set
      → HasSet guide.nodes there next
      → HasEdge guide.nodes node label there → IsStep edges set label next
  is-step node there set label next has leads edge =
      let steps =
      All-contains (HasItsSteps edges guide.nodes) guide.nodes edge.0 first.steps
      (Contains-from_place guide.nodes node.0 edge.0 edge.1) in
      let step = (steps.exact label there).0 edge.2 in
      let from : Some edge.0.set ≡ Some set =
      sym (at-map (λ (n : GuideNode). n.set) guide.nodes node.0 edge.0 edge.1) ∙ has in
      let set_is : edge.0.set ≡ set = cc in
      let to : Some step.0 ≡ Some next = sym step.1 ∙ leads in
      let next_is : step.0 ≡ next = cc in
      subst (λ (s : List Oid). IsStep edges s label next) set_is
      (subst (λ (s : List Oid). IsStep edges edge.0.set label s) next_is step.2)

  goes-within : (set : List Oid) (label : Label) (next : List Oid) → HasSetEdge guide set label next
      → HasSetEdge other set label next
  goes-within set label next goes =
      let step = is-step goes.0 goes.1 set label next goes.2 goes.3 goes.4 in
      let node = node-there goes.0 set goes.2 in
      let there = node-there goes.1 next goes.3 in
      let from = at-unmap (λ (n : GuideNode). n.set) other.nodes node.0.0 set node.1 in
      let steps =
      All-contains (HasItsSteps edges other.nodes) other.nodes from.0 second.steps
      (Contains-from_place other.nodes node.0.0 from.0 from.1) in (
        node.0,
        there.0,
        node.1,
        there.1,
        (
          from.0,
          from.1,
          (steps.exact label there.0).1
              (next, there.1, subst (λ (s : List Oid). IsStep edges s label next) (sym from.2) step),
        ),
      )

  begins-within : (name : List ℕ) (set : List Oid) → BeginsAt guide name set → BeginsAt other name set
  begins-within name set begins =
      let named = zip-right (IsEntry guide.nodes) names guide.entries (name, begins.0) first.entries begins.1 in
      let entry = zip-left (IsEntry other.nodes) names other.entries named.0 second.entries named.1 in
      let both : Some (named.0.1 ∷ []) ≡ Some set = sym named.2.node ∙ begins.2 in
      let set_is : named.0.1 ∷ [] ≡ set = cc in
      let name_is : entry.0.0 ≡ name = entry.2.name ∙ sym named.2.name in (
        entry.0.1,
        subst (λ (n : List ℕ). Contains other.entries (n, entry.0.1)) name_is entry.1,
        subst
            (λ (s : List Oid). HasSet other.nodes entry.0.1 s) set_is entry.2.node,
      )

pub alike_guides : HasAlikeGuides
alike_guides names edges guide other first second = record {
  sets = λ set. (
    sets-within names edges guide other first second set,
    sets-within names edges other guide second first
        set,
  );
  edges = λ set label next. (
    goes-within names edges guide other first second set label next,
    goes-within names edges
        other guide second first set label next,
  );
  entries = λ name set. (
    begins-within names edges guide other first second name set,
    begins-within names edges other
        guide second first name set,
  );
}
