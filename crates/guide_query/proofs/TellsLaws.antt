-- Along the edges of a guide the same words lead from sets to sets as are walked from object to object.
use Rattle.std.proofs.Common.{◌≡◌, ℕ, inl, inr, List, [], ◌∷◌, ◌++◌, Some, Contains, refl, sym, ◌∙◌, subst}
use Rattle.std.proofs.lemmas.List.Elements.{All-contains}
use Rattle.lore_base.specs.Walks.{Walk}
use Rattle.lore_base.specs.TargetSets.{LabelPath, IsTargetSet, IsStep, LeadsTo}
use Rattle.lore_base.proofs.MemberLaws.{Contains-none, Contains-head, Contains-cases}
use Rattle.list_laws.proofs.PlaceLaws.{Contains-from_place, place_of_member}
use Rattle.dataguide.specs.Guides.{GuideGraph, StandsFor, HasItsSteps, IsEntry, HasSet, HasEdge, sets_of}
use Rattle.set_steps.proofs.PlaceLaws.{at-map, at-unmap, zip-left}
use Rattle.dataguide.proofs.StopLaws.{target-none}
use Rattle.dataguide.proofs.TargetSteps.{step-target}
use Rattle.dataguide.proofs.StepLaws.{step_of, step_is}
use Rattle.guide_query.specs.Types.{Oid, Label, Edge, Node, GuideNode}
use Rattle.set_walk.specs.SetPaths.{LeadsAlong}
use Rattle.guide_query.specs.GuideReaches.{IsMember, TellsOf}
use Rattle.guide_query.proofs.GuideWalkLaws.{member-set}

module _ (names : List (List ℕ × Oid)) (edges : List Edge) (guide : GuideGraph)
    (stands : StandsFor guide names edges) where
  -- an edge leads to the step of the node's set
  pub edge-steps : (node next : Node) (set : List Oid) (label : Label) → HasSet guide.nodes node set
      → HasEdge guide.nodes node label next
      → (to : List Oid) × HasSet guide.nodes next to × IsStep edges set label to
  edge-steps node next set label has edge =
      let steps =
      All-contains (HasItsSteps edges guide.nodes) guide.nodes edge.0 stands.steps
      (Contains-from_place guide.nodes node.0 edge.0 edge.1) in
      let step = (steps.exact label next).0 edge.2 in
      let both : Some (edge.0).set ≡ Some set =
      sym (at-map (λ (n : GuideNode). n.set) guide.nodes node.0 edge.0 edge.1) ∙ has in
      let is : (edge.0).set ≡ set = cc in
      (step.0, step.1, subst (λ (s : List Oid). IsStep edges s label step.0) is step.2)

  -- and where a node has the step, an edge leads to it
  pub step-edge : (node next : Node) (set to : List Oid) (label : Label) → HasSet guide.nodes node set
      → HasSet guide.nodes next to
      → IsStep edges set label to → HasEdge guide.nodes node label next
  step-edge node next set to label has there step =
      let from = at-unmap (λ (n : GuideNode). n.set) guide.nodes node.0 set has in
      let steps =
      All-contains (HasItsSteps edges guide.nodes) guide.nodes from.0 stands.steps
      (Contains-from_place guide.nodes node.0 from.0 from.1) in
      let step_there = subst (λ (s : List Oid). IsStep edges s label to) (sym from.2) step in
      (from.0, from.1, (steps.exact label next).1 (to, there, step_there))

  -- what a word leads to is walked to from a member of the first set
  leads-walk : (word : List Label) (node last : Node) (set : List Oid) (oid : Oid) → HasSet guide.nodes node set
      → LeadsAlong (HasEdge guide.nodes) node word last → IsMember guide.nodes last oid
      → (start : Oid) × Contains set start × Walk edges start word oid
  leads-walk [] node last set oid has same member =
      (oid, member-set guide.nodes last set oid (subst (λ (n : Node). HasSet guide.nodes n set) same has) member, refl)
  leads-walk (label ∷ word) node last set oid has leads member =
      let step = edge-steps node leads.0 set label has leads.1 in
      let rest = leads-walk word leads.0 last step.0 oid step.1 leads.2 member in
      let leaves = (step.2.exact rest.0).0 rest.1 in
      (leaves.from, leaves.member, (rest.0, leaves.edge, rest.2))

  module _ (name : List ℕ) (named : Oid) (is : Contains names (name, named)) where
    -- a node has the step of a target set, if some object is in it
    pub step-node : (done : List Label) (label : Label) (set : List Oid) (oid : Oid) → IsTargetSet edges named done set
        → Contains (step_of edges set label) oid → (next : Node) × HasSet guide.nodes next (step_of edges set label)
    step-node done label set oid target there =
        let to = step_of edges set label in
        let path : LabelPath = record { name = name; word = done ++ label ∷ [] } in
        let leads : LeadsTo names edges path to = record {
          start = named;
          named = is;
          target = step-target edges named done label set to target (step_is edges set label);
          some = λ empty. Contains-none oid (subst (λ (l : List Oid). Contains l oid) empty there);
        } in
        let at = place_of_member (sets_of guide.nodes) to ((stands.nodes.exact to).1 (path, leads)) in
        (record { 0 = at.0 }, at.1)

    -- what is walked to from a member of a target set is led to
    walk-leads : (word done : List Label) (node : Node) (set : List Oid) (from oid : Oid)
        → IsTargetSet edges named done set
        → HasSet guide.nodes node set → Contains set from → Walk edges from word oid
        → (last : Node) × LeadsAlong (HasEdge guide.nodes) node word last × IsMember guide.nodes last oid
    walk-leads [] done node set from oid target has there same =
        (node, refl, (set, has, subst (λ (o : Oid). Contains set o) same there))
    walk-leads (label ∷ word) done node set from oid target has there walked =
        let to = step_of edges set label in
        let step = step_is edges set label in
        let reached = (step.exact walked.0).1 (record { from = from; member = there; edge = walked.1 }) in
        let next = step-node done label set walked.0 target reached in
        let rest =
        walk-leads word (done ++ label ∷ []) next.0 to walked.0 oid
        (step-target edges named done label set to target step)
        next.1 reached walked.2 in
        (rest.0, (next.0, step-edge node next.0 set to label has next.1 step, rest.1), rest.2)

-- what the guide tells of named objects is what paths reach
pub guide-tells : (names : List (List ℕ × Oid)) (edges : List Edge) (guide : GuideGraph) (labels : List (List ℕ))
    → StandsFor guide names edges
    → TellsOf (record { guide = guide; labels = labels }) names edges
guide-tells names edges guide labels stands name named is path oid = (
  λ told. (
      let walked =
      leads-walk names edges guide stands told.word told.entry told.last (named ∷ []) oid told.enters told.leads
      told.member in
      (told.word, told.spelled, subst (λ (o : Oid). Walk edges o told.word oid) (only walked.0 walked.1) walked.2)),
  λ reached. (
      let entry = zip-left (IsEntry guide.nodes) names guide.entries (name, named) stands.entries is in
      let led = walk-leads names edges guide stands name named is reached.0 [] entry.0.1 (named ∷ []) named oid
      (target-none edges named) entry.2.node (Contains-head named []) reached.2 in
      record {
        entry = entry.0.1;
        enters = entry.2.node;
        word = reached.0;
        spelled = reached.1;
        last = led.0;
        leads = led.1;
        member = led.2;
      }),
)
  where
    only : (start : Oid) → Contains (named ∷ []) start → start ≡ named
    only start among = elim (Contains-cases named [] start among) [
      | inl same ↦ sym same
      | inr none ↦ absurd (Contains-none start none)
    ]
