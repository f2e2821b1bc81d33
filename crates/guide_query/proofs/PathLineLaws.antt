-- The lines of the node that a label path leads to are those of the path.
use Rattle.std.proofs.Common.{◌≡◌, ℕ, ◌<◌, List, [], ◌∷◌, ◌++◌, length, map, take, min, get_or, unwrap_or}
use Rattle.std.proofs.Common.{Option, Some, None, Contains, refl, sym, ap, ◌∙◌, subst, arith}
use Rattle.std.specs.Prelude.{codes, decimal}
use Rattle.std.specs.List.{slice_get, AllZip}
use Rattle.std.proofs.lemmas.List.{length-map, take_min, length-take}
use Rattle.std.proofs.lemmas.List.Elements.{All-contains}
use Rattle.std.proofs.lemmas.Option.{slice_get-get_or}
use Rattle.lore_base.specs.Walks.{edge_of}
use Rattle.lore_base.specs.TargetSets.{ListsInOrder, IsStep, LeavesTo, IsLedTo}
use Rattle.lore_base.proofs.MemberLaws.{Contains-none, Contains-head, Contains-tail}
use Rattle.list_laws.proofs.PlaceLaws.{Contains-from_place}
use Rattle.list_laws.proofs.MemberLaws.{Contains-map, Contains-from_map}
use Rattle.dataguide.specs.Guides.{GuideGraph, StandsFor, HasItsSteps, HasSet, sets_of}
use Rattle.set_steps.proofs.PlaceLaws.{at-unmap}
use Rattle.set_steps.proofs.PairLaws.{some-member, AllPairs-map}
use Rattle.dataguide.proofs.StepLaws.{step_of, step_is}
use Rattle.guide_query.specs.Types.{Oid, Label, Edge, Node, GuideNode, Value}
use Rattle.guide_query.specs.GuideLines.{path_text, size_text}
use Rattle.guide_query.specs.PathLines.{IsWalkedTo, IsSetOfPath, AreLabelsOf, IsLabelLine, AreBrowseLines}
use Rattle.guide_query.specs.PathLines.{AreSampleLines}
use Rattle.lore_base.specs.Printed.{object_text}
use Rattle.guide_query.specs.inside.Written.{size_at, step_text}
use Rattle.guide_query.specs.inside.PathNodes.{IsReadable, IsNodeOf, set_at, edges_of, row_at, edge_line}
use Rattle.guide_query.proofs.TellsLaws.{step-node}

zip_maps : {X Y Z : Type 0} (R : Y → Z → Type 0) (f : X → Y) (g : X → Z) (xs : List X)
    → ((x : X) → Contains xs x → R (f x) (g x)) → AllZip R (map f xs) (map g xs)
zip_maps R f g [] each = tt
zip_maps R f g (x ∷ xs) each =
    (each x (Contains-head x xs), zip_maps R f g xs (λ y there. each y (Contains-tail x xs y there)))

none_ascend : (row : List Label) → row ≡ [] → (edges : List Edge) → AreLabelsOf edges [] []
none_ascend row is edges = record {
  ascending = λ i j d less within. absurd (omega (arith, less, within));
  exact = λ label. (
    λ there. absurd (Contains-none label there),
    λ leaves. absurd (Contains-none leaves.1.from leaves.1.member),
  );
}

module _ (guide : GuideGraph) (labels : List (List ℕ)) (names : List (List ℕ × Oid)) (edges : List Edge)
    (is : IsReadable guide labels names edges) where
  stands : StandsFor guide names edges
  stands = is.labelled.ordered.stands

  led_to : (node : Node) (set : List Oid) → HasSet guide.nodes node set → IsLedTo names edges set
  led_to node set has = (stands.nodes.exact set).0 (Contains-from_place (sets_of guide.nodes) node.0 set has)

  set_is : (P : Oid → Type 0) (found : Option Node) → IsNodeOf guide.nodes P found
      → ListsInOrder P (set_at guide.nodes found)
  set_is P None none = record {
    ascending = λ i j d less within. absurd (omega (arith, less, within));
    exact = λ oid. (λ there. absurd (Contains-none oid there), λ passes. absurd (none oid passes));
  }
  set_is P (Some node) there =
      subst (λ (s : List Oid). ListsInOrder P s) (sym (ap (λ (o : Option (List Oid)). unwrap_or o []) there.1)) there.2

  -- ---- the edges of a node
  module _ (node : Node) (set : List Oid) (has : HasSet guide.nodes node set) where
    there : (entry : GuideNode) × (slice_get guide.nodes node.0 ≡ Some entry) × (entry.set ≡ set)
    there = at-unmap (λ (n : GuideNode). n.set) guide.nodes node.0 set has

    abbrev row : List (Label × Node)
    row = (there.0).edges

    steps : HasItsSteps edges guide.nodes there.0
    steps =
        All-contains (HasItsSteps edges guide.nodes) guide.nodes there.0 stands.steps
        (Contains-from_place guide.nodes node.0 there.0 there.1)

    -- the set that an edge leads to
    edge_step : (edge : Label × Node) → Contains row edge
        → (next : List Oid) × HasSet guide.nodes edge.1 next × IsStep edges set edge.0 next
    edge_step edge among =
        let step = (steps.exact edge.0 edge.1).0 among in
        (step.0, step.1, subst (λ (s : List Oid). IsStep edges s edge.0 step.0) there.2 step.2)

    edge_leaves : (edge : Label × Node) → Contains row edge → (oid : Oid) × LeavesTo edges set edge.0 oid
    edge_leaves edge among =
        let step = edge_step edge among in
        let led = led_to edge.1 step.0 step.1 in
        let one = some-member step.0 led.1.some in
        (one.0, (step.2.exact one.0).0 one.1)

    label_has_edge : (label : Label) (oid : Oid) → LeavesTo edges set label oid
        → (next : Node) × Contains row (label, next)
    label_has_edge label oid leaves =
        let led = led_to node set has in
        let step = step_is edges set label in
        let next =
        step-node names edges guide stands led.0.name led.1.start led.1.named led.0.word label set oid led.1.target
        ((step.exact oid).1 leaves) in
        let same = subst (λ (s : List Oid). IsStep edges s label (step_of edges set label)) (sym there.2) step in
        (next.0, (steps.exact label next.0).1 (step_of edges set label, next.1, same))

    row_labels : AreLabelsOf edges set (map (λ edge. edge.0) row)
    row_labels = record {
      ascending =
          AllPairs-map (λ (edge : Label × Node). edge.0) (λ (a b : Label × Node). a.0.0 < b.0.0)
          (λ (a b : Label). a.0 < b.0) (λ a b less. less) row steps.ascending;
      exact = λ label. (
        λ among. (
            let edge = Contains-from_map (λ (e : Label × Node). e.0) row label among in
            subst (λ (l : Label). (oid : Oid) × LeavesTo edges set l oid) edge.2 (edge_leaves edge.0 edge.1)),
        λ leaves. (
            let edge = label_has_edge label leaves.0 leaves.1 in
            Contains-map (λ (e : Label × Node). e.0) row (label, edge.0) edge.1),
      );
    }

    row_line : (edge : Label × Node) → Contains row edge
        → IsLabelLine edges labels set edge.0 (edge_line guide labels edge)
    row_line edge among =
        let step = edge_step edge among in
        let leaves = edge_leaves edge among in
        let below : edge.0.0 < length labels =
        All-contains (λ (e : Edge). e.label.0 < length labels) edges (edge_of leaves.1.from edge.0 leaves.0)
        is.labelled.labelled leaves.1.edge in
        let text = get_or labels edge.0.0 [] in
        let labelled : slice_get labels edge.0.0 ≡ Some text = slice_get-get_or labels edge.0.0 [] below in
        record {
          text = text;
          labelled = labelled;
          next = step.0;
          step = step.2;
          printed = ap (λ (o : Option (List ℕ)). step_text o ++ size_text (size_at guide.nodes edge.1.0)) labelled
              ∙ ap (λ (s : Option (List Oid)). step_text (Some text) ++ size_text (length (unwrap_or s []))) step.1;
        }

  record ShowsRow (set : List Oid) (row : List (Label × Node)) : Type 0 where
    pub all : AreLabelsOf edges set (map (λ edge. edge.0) row)
    pub each : AllZip (IsLabelLine edges labels set) (map (λ edge. edge.0) row) (map (edge_line guide labels) row)

  row_is : (P : Oid → Type 0) (found : Option Node) → IsNodeOf guide.nodes P found
      → ShowsRow (set_at guide.nodes found) (row_at guide.nodes found)
  row_is P None none = record { all = none_ascend [] refl edges; each = tt }
  row_is P (Some node) (set, has, lists) =
      let entry = there node set has in
      let shows : ShowsRow set (entry.0).edges = record {
        all = row_labels node set has;
        each = zip_maps (IsLabelLine edges labels set) (λ (e : Label × Node). e.0) (edge_line guide labels)
            (entry.0).edges (row_line node set has);
      } in
      let on_set : ShowsRow (set_at guide.nodes (Some node)) (entry.0).edges =
      subst (λ (s : List Oid). ShowsRow s (entry.0).edges)
      (sym (ap (λ (o : Option (List Oid)). unwrap_or o []) has)) shows in
      subst (λ (r : List (Label × Node)). ShowsRow (set_at guide.nodes (Some node)) r)
      (sym (ap (λ (o : Option GuideNode). edges_of o) entry.1)) on_set

  -- ---- the lines
  module _ (name : List ℕ) (texts : List (List ℕ)) (found : Option Node)
      (node_is : IsNodeOf guide.nodes (IsWalkedTo names edges labels name texts) found) where
    -- as the lines are put one behind the other
    pub browse_is : (set : List Oid) (row : List (Label × Node)) (at last : List ℕ)
        (none first middle lines : List (List ℕ))
        → set ≡ set_at guide.nodes found → row ≡ row_at guide.nodes found
        → at ≡ codes "at " ++ path_text name texts ++ size_text (length set)
        → last ≡ codes "labels " ++ decimal (length row)
        → none ≡ [] → first ≡ none ++ at ∷ [] → middle ≡ first ++ map (edge_line guide labels) row
        → lines ≡ middle ++ last ∷ []
        → AreBrowseLines names edges labels name texts lines
    browse_is set row at last none first middle lines set_so row_so at_is last_is none_is first_is middle_is lines_is =
        let lists = set_is (IsWalkedTo names edges labels name texts) found node_is in
        let shows =
        subst (λ (r : List (Label × Node)). ShowsRow set r) (sym row_so)
        (subst (λ (s : List Oid). ShowsRow s (row_at guide.nodes found)) (sym set_so)
        (row_is (IsWalkedTo names edges labels name texts) found node_is)) in
        let edge_lines = map (edge_line guide labels) row in
        record {
          set = set;
          target = subst (λ (s : List Oid). IsSetOfPath names edges labels name texts s) (sym set_so) lists;
          leaving = map (λ edge. edge.0) row;
          all = shows.all;
          label_lines = edge_lines;
          each = shows.each;
          are = lines_is ∙ ap (λ (l : List (List ℕ)). l ++ last ∷ []) middle_is
              ∙ ap (λ (l : List (List ℕ)). (l ++ edge_lines) ++ last ∷ []) first_is
              ∙ ap (λ (l : List (List ℕ)). ((l ++ at ∷ []) ++ edge_lines) ++ last ∷ []) none_is
              ∙ ap (λ (l : List ℕ). l ∷ edge_lines ++ last ∷ []) at_is
              ∙ ap (λ (l : List ℕ). (codes "at " ++ path_text name texts ++ size_text (length set))
              ∷ edge_lines ++ l ∷ [])
              (last_is ∙ ap (λ (n : ℕ). codes "labels " ++ decimal n)
              (sym (length-map row (λ (e : Label × Node). e.0))));
        }

    -- the same of a sample, whose objects are in front
    pub sample_is : (objects : List (Oid × Value)) (set : List Oid) (count shown : ℕ) (object_lines : List (List ℕ))
        (last : List ℕ) (lines : List (List ℕ))
        → set ≡ set_at guide.nodes found → shown ≡ min count (length set)
        → object_lines ≡ map (object_text objects) (take shown set)
        → last ≡ codes "sample " ++ decimal shown ++ codes " of " ++ decimal (length set)
        → lines ≡ object_lines ++ last ∷ []
        → AreSampleLines names objects edges labels name texts count lines
    sample_is objects set count shown object_lines last lines set_so shown_is shows last_is lines_are =
        let lists = set_is (IsWalkedTo names edges labels name texts) found node_is in
        let front : take shown set ≡ take count set =
        ap (λ (n : ℕ). take n set) shown_is ∙ take_min count set in
        let long : shown ≡ length (take count set) = shown_is ∙ sym (length-take count set) in
        record {
          set = set;
          target = subst (λ (s : List Oid). IsSetOfPath names edges labels name texts s) (sym set_so) lists;
          are = lines_are ∙ ap (λ (l : List (List ℕ)). l ++ last ∷ [])
              (shows ∙ ap (λ (oids : List Oid). map (object_text objects) oids) front)
              ∙ ap (λ (l : List ℕ). map (object_text objects) (take count set) ++ l ∷ [])
              (last_is ∙ ap (λ (n : ℕ). codes "sample " ++ decimal n ++ codes " of " ++ decimal (length set)) long);
        }
