-- The node that a label path leads to has the path's target set.
use Rattle.std.proofs.Common.{◌≡◌, ◌↔◌, ℕ, inl, inr, List, [], ◌∷◌, Option, Some, None, true}
use Rattle.std.proofs.Common.{Contains, refl, sym, subst, true≢false}
use Rattle.std.specs.Prelude.{IfSome, IfNone, IsSome}
use Rattle.std.specs.List.{slice_get}
use Rattle.std.specs.Map.{keys_of, lookup}
use Rattle.std.specs.BTreeMap.{is_at}
use Rattle.std.specs.Ordering.{eq_by_cmp}
use Rattle.std.specs.Cmp.{IsEquivalence}
use Rattle.std.proofs.lemmas.Cmp.{nat_list_cmp_total, eq_by_cmp_equiv}
use Rattle.std.proofs.lemmas.Map.Lookups.{exact_bytes}
use Rattle.std.proofs.lemmas.Map.Views.{Contains-from_lookup, IsSome-lookup_from_Contains}
use Rattle.lore_base.specs.Bytes.{bytes_cmp}
use Rattle.lore_base.specs.TargetSets.{ListsInOrder, LeavesTo}
use Rattle.lore_base.proofs.MemberLaws.{Contains-none, Contains-head, Contains-cases}
use Rattle.lore_base.proofs.NameLaws.{bound_found}
use Rattle.list_laws.proofs.OrderLaws.{Equal-from_test}
use Rattle.list_laws.proofs.PlaceLaws.{Contains-from_place}
use Rattle.list_laws.proofs.MemberLaws.{Contains-map}
use Rattle.dataguide.specs.Guides.{GuideGraph, StandsFor, IsEntry, HasSet, HasEdge, sets_of, node_of}
use Rattle.set_steps.proofs.PlaceLaws.{one-place, zip-left, zip-right}
use Rattle.dataguide.proofs.StepLaws.{step_of, step_is}
use Rattle.guide_query.specs.Types.{Oid, Label, Edge, Node}
use Rattle.guide_query.specs.PathLines.{IsWalkedTo}
use Rattle.guide_query.specs.inside.PathNodes.{IsReadable, LeavesBy, IsNodeOf, GoesOnTo, HasComeTo}
use Rattle.guide_query.proofs.FirstLaws.{one_at}
use Rattle.guide_query.proofs.TellsLaws.{edge-steps, step-edge, step-node}

names_equiv : IsEquivalence (eq_by_cmp bytes_cmp)
names_equiv = eq_by_cmp_equiv nat_list_cmp_total

same_name : (name other : List ℕ) → is_at (bytes_cmp name) other ≡ true → name ≡ other
same_name name other h = exact_bytes name other (Equal-from_test (bytes_cmp name other) h)

-- a name among the keys is found
found_key : (entries : List (List ℕ × Node)) (name : List ℕ) → node_of entries name ≡ None
    → Contains (keys_of entries) name → ⊥
found_key entries name none there =
    let some : IsSome (node_of entries name) = IsSome-lookup_from_Contains names_equiv name entries there in
    true≢false (sym (subst (λ (o : Option Node). IsSome o) none some))

module _ (guide : GuideGraph) (labels : List (List ℕ)) (names : List (List ℕ × Oid)) (edges : List Edge)
    (is : IsReadable guide labels names edges) where
  stands : StandsFor guide names edges
  stands = is.labelled.ordered.stands

  one_label : (label other : Label) (text : List ℕ) → slice_get labels label.0 ≡ Some text
      → slice_get labels other.0 ≡ Some text → label ≡ other
  one_label label other text first second =
      let same = one-place labels is.distinct label.0 other.0 text first second in λ i. record { 0 = same i }

  leaves_alike : (set : List Oid) (label other : Label) (text : List ℕ) (oid : Oid)
      → slice_get labels label.0 ≡ Some text → slice_get labels other.0 ≡ Some text
      → LeavesTo edges set label oid → LeavesTo edges set other oid
  leaves_alike set label other text oid first second leaves =
      subst (λ (l : Label). LeavesTo edges set l oid) (one_label label other text first second) leaves

  -- ---- one label further
  -- the child by the label that has the text has the objects that labels with the text lead to
  pub child_is : (node : Node) (set : List Oid) (label : Label) (text : List ℕ) (found : Option Node)
      → HasSet guide.nodes node set → slice_get labels label.0 ≡ Some text
      → IfSome found (λ next. HasEdge guide.nodes node label next)
      → IfNone found ((next : Node) → HasEdge guide.nodes node label next → ⊥)
      → IsNodeOf guide.nodes (LeavesBy edges labels set text) found
  child_is node set label text (Some next) has labelled some none =
      let step = edge-steps names edges guide stands node next set label has some in (
        step.0,
        step.1,
        record {
          ascending = step.2.ascending;
          exact = λ oid. (
            λ there. (label, labelled, (step.2.exact oid).0 there),
            λ by. (step.2.exact oid).1 (leaves_alike set by.0 label text oid by.1 labelled by.2),
          );
        },
      )
  child_is node set label text None has labelled some none = λ oid by.
      let led = (stands.nodes.exact set).0 (Contains-from_place (sets_of guide.nodes) node.0 set has) in
      let step = step_is edges set label in
      let there = (step.exact oid).1 (leaves_alike set by.0 label text oid by.1 labelled by.2) in
      let next =
      step-node names edges guide stands led.0.name led.1.start led.1.named led.0.word label set oid led.1.target
      there in
      none next.0 (step-edge names edges guide stands node next.0 set (step_of edges set label) label has next.1 step)

  -- ---- along the texts of a path
  first_step : (set : List Oid) (text : List ℕ) (texts : List (List ℕ)) (oid : Oid)
      → GoesOnTo edges labels set (text ∷ texts) oid
      → (next : Oid) × LeavesBy edges labels set text next × GoesOnTo edges labels (next ∷ []) texts oid
  first_step set text texts oid (from, member, [], has, walked) = absurd has
  first_step set text texts oid (from, member, label ∷ word, has, walked) = (
    walked.0,
    (label, has.0, record { from = from; member = member; edge = walked.1 }),
    (walked.0, Contains-head walked.0 [], word, has.1, walked.2),
  )

  only : (one other : Oid) → Contains (one ∷ []) other → one ≡ other
  only one other among = elim (Contains-cases one [] other among) [
    | inl same ↦ same
    | inr none ↦ absurd (Contains-none other none)
  ]

  goes-wider : (set : List Oid) (one : Oid) (texts : List (List ℕ)) (oid : Oid) → Contains set one
      → GoesOnTo edges labels (one ∷ []) texts oid → GoesOnTo edges labels set texts oid
  goes-wider set one texts oid there goes = (
    goes.0,
    subst (λ (o : Oid). Contains set o) (only one goes.0 goes.1) there,
    goes.2,
    goes.3,
    goes.4,
  )

  step_goes : (set next : List Oid) (text : List ℕ) (texts : List (List ℕ))
      → ListsInOrder (LeavesBy edges labels set text) next → (oid : Oid)
      → GoesOnTo edges labels set (text ∷ texts) oid ↔ GoesOnTo edges labels next texts oid
  step_goes set next text texts lists oid = (
    λ goes. (let first = first_step set text texts oid goes in
        goes-wider next first.0 texts oid ((lists.exact first.0).1 first.1) first.2),
    λ goes. (
        let by = (lists.exact goes.0).0 goes.1 in (
          (by.2).from,
          (by.2).member,
          by.0 ∷ goes.2,
          (by.1, goes.3),
          (goes.0, (by.2).edge, goes.4),
        )),
  )

  module _ (name : List ℕ) (texts : List (List ℕ)) where
    abbrev Walked : Oid → Type 0
    Walked oid = IsWalkedTo names edges labels name texts oid

    -- the node of the name
    pub start_none : node_of guide.entries name ≡ None → (oid : Oid) → Walked oid → ⊥
    start_none at oid walked =
        let entry = zip-left (IsEntry guide.nodes) names guide.entries (name, walked.0) stands.entries walked.1 in
        let key = Contains-map (λ (e : List ℕ × Node). e.0) guide.entries entry.0 entry.1 in
        found_key guide.entries name at
        (subst (λ (n : List ℕ). Contains (keys_of guide.entries) n) entry.2.name key)

    pub start_some : (node : Node) → node_of guide.entries name ≡ Some node
        → HasComeTo guide.nodes names edges labels name texts texts node
    start_some node at =
        let there = Contains-from_lookup {eq = eq_by_cmp bytes_cmp} same_name name node guide.entries at in
        let from = zip-right (IsEntry guide.nodes) names guide.entries (name, node) stands.entries there in
        let start = from.0.1 in
        let named : Contains names (name, start) =
        subst (λ (n : List ℕ). Contains names (n, start)) (sym from.2.name) from.1 in (
          start ∷ [],
          from.2.node,
          λ oid. (
            λ walked. (
                let same : start ≡ walked.0 =
                one_at start walked.0 (lookup (is_at (bytes_cmp name)) names)
                (bound_found names name start is.labelled.table named)
                (bound_found names name walked.0 is.labelled.table walked.1) in (
                  walked.0,
                  subst (λ (o : Oid). Contains (start ∷ []) o) same (Contains-head start []),
                  walked.2,
                  walked.3,
                  walked.4,
                )),
            λ goes. (
              goes.0,
              subst (λ (o : Oid). Contains names (name, o)) (only start goes.0 goes.1) named,
              goes.2,
              goes.3,
              goes.4,
            ),
          ),
        )

    -- one text further
    pub come_further : (left : List (List ℕ)) (text : List ℕ) (node next : Node)
        → HasComeTo guide.nodes names edges labels name texts (text ∷ left) node
        → ((set : List Oid) → HasSet guide.nodes node set
        → IsNodeOf guide.nodes (LeavesBy edges labels set text) (Some next))
        → HasComeTo guide.nodes names edges labels name texts left next
    come_further left text node next come child =
        let there = child come.0 come.1 in (
          there.0,
          there.1,
          λ oid. (
            λ walked. (step_goes come.0 there.0 text left there.2 oid).0 ((come.2 oid).0 walked),
            λ goes. (come.2 oid).1 ((step_goes come.0 there.0 text left there.2 oid).1 goes),
          ),
        )

    pub comes_nowhere : (left : List (List ℕ)) (text : List ℕ) (node : Node)
        → HasComeTo guide.nodes names edges labels name texts (text ∷ left) node
        → ((set : List Oid) → HasSet guide.nodes node set → IsNodeOf guide.nodes (LeavesBy edges labels set text) None)
        → (oid : Oid) → Walked oid → ⊥
    comes_nowhere left text node come child oid walked =
        let first = first_step come.0 text left oid ((come.2 oid).0 walked) in
        child come.0 come.1 first.0 first.1

    goes_none : (set : List Oid) (oid : Oid) → GoesOnTo edges labels set [] oid → Contains set oid
    goes_none set oid (from, member, [], has, walked) = subst (λ (o : Oid). Contains set o) walked member
    goes_none set oid (from, member, label ∷ word, has, walked) = absurd has

    -- no text is left
    pub come_end : (node : Node) → HasComeTo guide.nodes names edges labels name texts [] node
        → IsNodeOf guide.nodes Walked (Some node)
    come_end node come =
        let led = (stands.nodes.exact come.0).0 (Contains-from_place (sets_of guide.nodes) node.0 come.0 come.1) in (
          come.0,
          come.1,
          record {
            ascending = led.1.target.ascending;
            exact = λ oid. (
              λ there. (come.2 oid).1 (oid, there, [], tt, refl),
              λ walked. goes_none come.0 oid ((come.2 oid).0 walked),
            );
          },
        )
