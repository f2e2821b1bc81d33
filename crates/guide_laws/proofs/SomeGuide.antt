-- Some guide stands for each database: a node for each target set, an edge for each label that leaves it.
use Rattle.std.proofs.Common.{◌≡◌, ◌≢◌, ◌↔◌, ℕ, ◌<◌, inl, inr, List, [], ◌∷◌, map, Some, refl, sym, ap, ◌∙◌, subst}
use Rattle.std.specs.List.{AllPairs, AllZip, Contains, slice_get}
use Rattle.std.proofs.lemmas.List.Elements.{All-map}
use Rattle.std.proofs.lemmas.List.Kept.{AllPairs-cons}
use Rattle.lore_base.specs.Walks.{edge_of}
use Rattle.lore_base.proofs.ListLaws.{AllPairs-head, AllPairs-tail}
use Rattle.lore_base.proofs.MemberLaws.{Contains-none, Contains-head, Contains-tail, Contains-cases, Contains-same}
use Rattle.lore_base.proofs.TargetLaws.{ListsInOrder-unique}
use Rattle.lore_base.proofs.ToldLaws.{told_member}
use Rattle.list_laws.proofs.AscentLaws.{IsSetOf, some_ordered}
use Rattle.list_laws.proofs.PairLaws.{AllPairs-nil}
use Rattle.list_laws.proofs.MemberLaws.{Contains-map, All-from_members}
use Rattle.list_laws.proofs.PlaceLaws.{Contains-from_place, place_of_member}
use Rattle.dataguide.specs.Types.{Oid, Label, Edge, Node, GuideNode}
use Rattle.lore_base.specs.TargetSets.{AreTargetSets, LeavesTo, IsStep}
use Rattle.dataguide.specs.Guides.{GuideGraph, sets_of, AscendByLabel, HasItsSteps, IsEntry, StandsFor}
use Rattle.dataguide.specs.inside.Trails.{start_path}
use Rattle.set_steps.proofs.PlaceLaws.{one-place}
use Rattle.dataguide.proofs.StopLaws.{leads-start}
use Rattle.set_steps.proofs.PairLaws.{some-member}
use Rattle.lore_base.specs.PathOrder.{AreInPathOrder}
use Rattle.guide_laws.specs.Laws.{GuidesExist, OrderedGuidesExist}
use Rattle.dataguide.proofs.StepLaws.{numbers_ordered, step_of, step_is}
use Rattle.guide_laws.proofs.TargetSetLaws.{told_set, target_sets_exist}
use Rattle.guide_laws.proofs.OrderedSets.{ordered_sets_exist}

-- the labels of edges, in the order of their numbers
some_labels : (edges : List Edge)
    → (labels : List Label) × IsSetOf (λ a b. a.0 < b.0) (map (λ edge. edge.label) edges) labels
some_labels edges =
    some_ordered (λ (a b : Label). a.0 < b.0)
    (numbers_ordered (λ (label : Label). label.0) (λ a b same. λ i. record { 0 = same i }))
    (map (λ edge. edge.label) edges)

module _ (edges : List Edge) (sets : List (List Oid)) (apart : AllPairs (λ a b. a ≢ b) sets) where
  -- the row leads by each of the labels to the place of the set's step, where the step is one of the sets
  record IsRow (set : List Oid) (labels : List Label) (row : List (Label × Node)) : Type 0 where
    pub ascending : AscendByLabel row
    pub exact : (label : Label) (next : Node) → Contains row (label, next)
        ↔ (Contains labels label × (slice_get sets next.0 ≡ Some (step_of edges set label)))

  module _ (set : List Oid) (label : Label) (labels : List Label) (row : List (Label × Node))
      (is : IsRow set labels row) where
    row_more : (node : Node) → AllPairs (λ a b. a.0 < b.0) (label ∷ labels)
        → slice_get sets node.0 ≡ Some (step_of edges set label)
        → IsRow set (label ∷ labels) ((label, node) ∷ row)
    row_more node ascend at = record {
      ascending = AllPairs-cons (λ (a b : Label × Node). a.0.0 < b.0.0) (label, node) row
          (All-from_members (λ (e : Label × Node). label.0 < e.0.0) row
          (λ e there. AllPairs-head (λ (a b : Label). a.0 < b.0) label labels ascend e.0
          ((is.exact e.0 e.1).0 there).0)) is.ascending;
      exact = λ other next. (
        λ there. elim (Contains-cases (label, node) row (other, next) there) [
          | inl same ↦ subst
              (λ (e : Label × Node).
              Contains (label ∷ labels) e.0 × (slice_get sets e.1.0 ≡ Some (step_of edges set e.0)))
              same (Contains-head label labels, at)
          | inr later ↦ (
              let has = (is.exact other next).0 later in
              (Contains-tail label labels other has.0, has.1))
        ],
        λ has. elim (Contains-cases label labels other has.0) [
          | inl same ↦ (
              let at_next : slice_get sets next.0 ≡ Some (step_of edges set label) =
              subst (λ (l : Label). slice_get sets next.0 ≡ Some (step_of edges set l)) (sym same) has.1 in
              let place : node.0 ≡ next.0 =
              one-place sets apart node.0 next.0 (step_of edges set label) at at_next in
              let node_is : node ≡ next = λ i. record { 0 = place i } in
              Contains-same ((label, node) ∷ row) (label, node) (other, next) (λ i. (same i, node_is i))
              (Contains-head (label, node) row))
          | inr later ↦ Contains-tail (label, node) row (other, next) ((is.exact other next).1 (later, has.1))
        ],
      );
    }

    row_same : (Contains sets (step_of edges set label) → ⊥) → IsRow set (label ∷ labels) row
    row_same none = record {
      ascending = is.ascending;
      exact = λ other next. (
        λ there. (let has = (is.exact other next).0 there in (Contains-tail label labels other has.0, has.1)),
        λ has. elim (Contains-cases label labels other has.0) [
          | inl same ↦ absurd (none (Contains-from_place sets next.0 (step_of edges set label)
              (subst (λ (l : Label). slice_get sets next.0 ≡ Some (step_of edges set l)) (sym same) has.1)))
          | inr later ↦ (is.exact other next).1 (later, has.1)
        ],
      );
    }

  some_row : (set : List Oid) (labels : List Label) → AllPairs (λ a b. a.0 < b.0) labels
      → (row : List (Label × Node)) × IsRow set labels row
  some_row set [] ascend = (
    [],
    record {
      ascending = AllPairs-nil (λ (a b : Label × Node). a.0.0 < b.0.0);
      exact = λ label next. (
        λ there. absurd (Contains-none (label, next) there),
        λ has. absurd (Contains-none label has.0),
      );
    },
  )
  some_row set (label ∷ labels) ascend =
      let rest = some_row set labels (AllPairs-tail (λ (a b : Label). a.0 < b.0) label labels ascend) in
      elim (told_member told_set sets (step_of edges set label)) [
        | inl there ↦ (
            let at = place_of_member sets (step_of edges set label) there in
            let node : Node = record { 0 = at.0 } in
            ((label, node) ∷ rest.0, row_more set label labels rest.0 rest.1 node ascend at.1))
        | inr none ↦ (rest.0, row_same set label labels rest.0 rest.1 none)
      ]

  module _ (some : (set : List Oid) → Contains sets set → set ≢ []) where
    abbrev row_of : List Oid → List (Label × Node)
    row_of set = (some_row set (some_labels edges).0 (some_labels edges).1.ascend).0

    -- the node of a set
    abbrev node_of_set : List Oid → GuideNode
    node_of_set set = record { set = set; edges = row_of set }

    sets_are : (some_sets : List (List Oid)) → sets_of (map node_of_set some_sets) ≡ some_sets
    sets_are [] = refl
    sets_are (set ∷ others) = ap (λ (l : List (List Oid)). set ∷ l) (sets_are others)

    abbrev nodes : List GuideNode
    nodes = map node_of_set sets

    -- a step that isn't empty is by the label of an edge
    label_there : (set next : List Oid) (label : Label) → IsStep edges set label next → Contains sets next
        → Contains (some_labels edges).0 label
    label_there set next label step there =
        let one = some-member next (some next there) in
        let leaves = (step.exact one.0).0 one.1 in
        (some_labels edges).1.kept label
        (Contains-map (λ (edge : Edge). edge.label) edges (edge_of leaves.from label one.0) leaves.edge)

    has_its_steps : (set : List Oid) → HasItsSteps edges nodes (node_of_set set)
    has_its_steps set =
        let row = (some_row set (some_labels edges).0 (some_labels edges).1.ascend).1 in
        record {
          ascending = row.ascending;
          exact = λ label next. (
            λ there. (
              step_of edges set label,
              subst (λ (l : List (List Oid)). slice_get l next.0 ≡ Some (step_of edges set label))
                  (sym (sets_are sets)) ((row.exact label next).0 there).1,
              step_is edges set label,
            ),
            λ has.
                let at : slice_get sets next.0 ≡ Some has.0 =
                subst (λ (l : List (List Oid)). slice_get l next.0 ≡ Some has.0) (sets_are sets) has.1 in
                let is : has.0 ≡ step_of edges set label =
                ListsInOrder-unique (LeavesTo edges set label) has.0 (step_of edges set label) has.2
                (step_is edges set label) in
                (row.exact label next).1 (
                  label_there set has.0 label has.2 (Contains-from_place sets next.0 has.0 at),
                  at ∙ ap Some is,
                ),
          );
        }

    some_entries : (names : List (List ℕ × Oid))
        → ((named : List ℕ × Oid) → Contains names named → Contains sets (named.1 ∷ []))
        → (entries : List (List ℕ × Node)) × AllZip (IsEntry nodes) names entries
    some_entries [] each = ([], tt)
    some_entries (named ∷ names) each =
        let at = place_of_member sets (named.1 ∷ []) (each named (Contains-head named names)) in
        let rest = some_entries names (λ other there. each other (Contains-tail named names other there)) in
        let node : Node = record { 0 = at.0 } in (
          (named.0, node) ∷ rest.0,
          (
            record {
              name = refl;
              node = subst (λ (l : List (List Oid)). slice_get l at.0 ≡ Some (named.1 ∷ []))
                  (sym (sets_are sets)) at.1;
            },
            rest.1,
          ),
        )

    some_guide : (names : List (List ℕ × Oid)) → AreTargetSets names edges sets
        → (guide : GuideGraph) × StandsFor guide names edges × (sets_of guide.nodes ≡ sets)
    some_guide names are =
        let entries = some_entries names
        (λ named there. (are.exact (named.1 ∷ [])).1
        (start_path named.0, leads-start names edges named there)) in (
          record { nodes = nodes; entries = entries.0 },
          record {
            nodes = subst (AreTargetSets names edges) (sym (sets_are sets)) are;
            steps = All-map (HasItsSteps edges nodes) node_of_set sets
                (All-from_members (λ (set : List Oid). HasItsSteps edges nodes (node_of_set set)) sets
                (λ set there. has_its_steps set));
            entries = entries.1;
          },
          sets_are sets,
        )

pub guides_exist : GuidesExist
guides_exist names edges =
    let all = target_sets_exist names edges in
    let guide = some_guide edges all.0 all.1.apart (λ set there. ((all.1.exact set).0 there).1.some) names all.1 in
    (guide.0, guide.1)

pub ordered_guides_exist : OrderedGuidesExist
ordered_guides_exist names edges table =
    let all = ordered_sets_exist names edges table in
    let guide = some_guide edges all.0 all.1.apart (λ set there. ((all.1.exact set).0 there).1.some) names all.1 in
    (guide.0, record { stands = guide.1; order = subst (AreInPathOrder names edges) (sym guide.2) all.2 })
