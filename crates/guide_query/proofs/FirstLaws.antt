-- The first mention of a node gives its least path.
use Rattle.std.proofs.Common.{◌≡◌, ℕ, ◌<◌, inl, inr, List, [], ◌∷◌, length, get_or, Option, Some, refl, sym, ap, ◌∙◌}
use Rattle.std.proofs.Common.{subst, arith, length-append}
use Rattle.std.specs.List.{slice_get}
use Rattle.std.proofs.lemmas.Bool.{cases_lt}
use Rattle.std.proofs.lemmas.List.{length-map}
use Rattle.std.proofs.lemmas.Option.{slice_get_within, slice_get-get_or}
use Rattle.list_laws.proofs.PlaceLaws.{Contains-from_place, pair_at}
use Rattle.lore_base.specs.TargetSets.{LabelPath, LeadsTo, IsStep}
use Rattle.lore_base.specs.PathOrder.{IsLeastPath, ComesBefore}
use Rattle.dataguide.specs.Guides.{GuideGraph, sets_of, edge_at, node_number}
use Rattle.dataguide.specs.inside.Trails.{start_path, longer, ComesUpTo}
use Rattle.dataguide.proofs.OneGuide.{one-least}
use Rattle.dataguide.proofs.PathOrder.{before-longer, before-label, before-end, before-itself, before-not_back}
use Rattle.dataguide.proofs.PathOrder.{upto-longer, upto-trans}
use Rattle.set_steps.proofs.PlaceLaws.{at-map}
use Rattle.dataguide.proofs.StopLaws.{leads-start, leads-step}
use Rattle.guide_query.specs.Types.{Oid, Label, Edge, Node, GuideNode, Origin, Unmet, Named, Step}
use Rattle.guide_query.specs.GuideLines.{IsLabelledGuide}
use Rattle.guide_query.specs.inside.Origins.{Reading, IsUnnamed, IsUnled, IsOrigin}
use Rattle.guide_query.proofs.EntryLaws.{and_then-at, zip-at, IsNamed, name-sound, names-before, steps-at, set-some}
use Rattle.guide_query.proofs.EntryLaws.{label-below, IsNamePath, IsStepPath, path-cases}

pub one_at : {X : Type 0} (a b : X) (found : Option X) → found ≡ Some a → found ≡ Some b → a ≡ b
one_at a b found first second = let both : Some a ≡ Some b = sym first ∙ second in cc

module _ (guide : GuideGraph) (labels : List (List ℕ)) (names : List (List ℕ × Oid)) (edges : List Edge)
    (is : IsLabelledGuide guide labels names edges) where
  abbrev all_read : Reading
  all_read = record { entries = length guide.entries; nodes = length guide.nodes; edges = 0 }

  -- what the origin of a node tells of its least path
  pub record IsNameOf (set : List Oid) (place : ℕ) : Type 0 where
    pub entry : List ℕ × Node
    pub at : slice_get guide.entries place ≡ Some entry
    pub least : IsLeastPath names edges (start_path entry.0) set

  pub record IsStepOf (k : ℕ) (set : List Oid) (from : Node) (label : Label) : Type 0 where
    pub before : from.0 < k
    pub front : List Oid
    pub at : slice_get (sets_of guide.nodes) from.0 ≡ Some front
    pub text : List ℕ
    pub labelled : slice_get labels label.0 ≡ Some text
    pub least : (path : LabelPath) → IsLeastPath names edges path front
        → IsLeastPath names edges (longer path label) set

  abbrev pub IsFirst : ℕ → List Oid → Origin → Type 0
  IsFirst k set Unmet = ⊥
  IsFirst k set (Named place) = IsNameOf set place
  IsFirst k set (Step from label) = IsStepOf k set from label

  module _ (k : ℕ) (set : List Oid) (at : slice_get (sets_of guide.nodes) k ≡ Some set) where
    -- a node that no entry has isn't led to by a name
    not_named : IsUnnamed guide (length guide.entries) (node_number k) → (path : LabelPath)
        → IsNamePath guide labels names edges is k set path → ⊥
    not_named none path by =
        none by.placed.place by.named.0
        (slice_get_within guide.entries by.placed.place (by.named.0, node_number k) by.placed.leads) by.placed.leads

    node_within : (m : ℕ) (from : List Oid) → slice_get (sets_of guide.nodes) m ≡ Some from → m < length guide.nodes
    node_within m from there =
        omega (
          arith,
          slice_get_within (sets_of guide.nodes) m from there,
          length-map guide.nodes (λ (n : GuideNode). n.set),
        )

    first_unmet : IsUnnamed guide (length guide.entries) (node_number k)
        → IsUnled guide (length guide.nodes) 0 (node_number k) → ⊥
    first_unmet unnamed unled =
        let led = (is.ordered.stands.nodes.exact set).0 (Contains-from_place (sets_of guide.nodes) k set at) in
        elim (path-cases guide labels names edges is k set at led.0 led.1) [
          | inl by ↦ not_named unnamed led.0 by
          | inr by ↦ unled by.node by.place by.label (inl (node_within by.node by.from by.at)) by.edge
        ]

    module _ (place : ℕ) (name : List ℕ) (has : slice_get guide.entries place ≡ Some (name, node_number k))
        (none : IsUnnamed guide place (node_number k)) where
      sound : IsNamed guide labels names edges is place name (node_number k)
      sound = name-sound guide labels names edges is place name (node_number k) has

      own_least : (path : LabelPath) → LeadsTo names edges path set → ComesUpTo (start_path sound.named.0) path
      own_least path leads = elim (path-cases guide labels names edges is k set at path leads) [
        | inl by ↦ subst (λ (p : LabelPath). ComesUpTo (start_path sound.named.0) p) by.path_is
            (elim (cases_lt by.placed.place place) [
              | inl early ↦ absurd (none by.placed.place by.named.0 early by.placed.leads)
              | inr late ↦ elim (cases_lt place by.placed.place) [
                | inl less ↦ inr (names-before guide labels names edges is place by.placed.place sound.named by.named
                    less sound.at by.placed.at)
                | inr most ↦ (
                    let here : by.placed.place ≡ place = omega (arith, late, most) in
                    let there : slice_get names place ≡ Some by.named =
                    subst (λ (p : ℕ). slice_get names p ≡ Some by.named) here by.placed.at in
                    let same : sound.named ≡ by.named =
                    one_at sound.named by.named (slice_get names place) sound.at there in
                    inl (ap (λ (n : List ℕ × Oid). start_path n.0) same))
              ]
            ])
        | inr by ↦ subst (λ (p : LabelPath). ComesUpTo (start_path sound.named.0) p) by.path_is
            (inr (inl (omega (arith, length-append by.front.word (by.label ∷ [])))))
      ]

      own_leads : LeadsTo names edges (start_path sound.named.0) set
      own_leads =
          let same : sound.named.1 ∷ [] ≡ set =
          one_at (sound.named.1 ∷ []) set (slice_get (sets_of guide.nodes) k) sound.set at in
          subst (λ (s : List Oid). LeadsTo names edges (start_path sound.named.0) s) same
          (leads-start names edges sound.named (Contains-from_place names place sound.named sound.at))

      first_named : IsNameOf set place
      first_named = record {
        entry = (name, node_number k);
        at = has;
        least = subst (λ (n : List ℕ). IsLeastPath names edges (start_path n) set) sound.called
            (record { leads = own_leads; least = own_least });
      }

    module _ (from : Node) (label : Label) (unnamed : IsUnnamed guide (length guide.entries) (node_number k))
        (place : ℕ) (edge : edge_at guide.nodes from place ≡ Some (label, node_number k))
        (unled : IsUnled guide from.0 place (node_number k)) where
      there : (node : GuideNode) × (slice_get guide.nodes from.0 ≡ Some node)
          × (slice_get node.edges place ≡ Some (label, node_number k))
      there =
          and_then-at (λ (n : GuideNode). slice_get n.edges place) (slice_get guide.nodes from.0)
          (label, node_number k) edge

      front_at : slice_get (sets_of guide.nodes) from.0 ≡ Some there.0.set
      front_at = at-map (λ (n : GuideNode). n.set) guide.nodes from.0 there.0 there.1

      step_there : IsStep edges there.0.set label set
      step_there =
          let step = ((steps-at guide labels names edges is from.0 there.0 there.1).exact label (node_number k)).0
          (Contains-from_place there.0.edges place (label, node_number k) there.2) in
          subst (λ (s : List Oid). IsStep edges there.0.set label s)
          (one_at step.0 set (slice_get (sets_of guide.nodes) k) step.1 at) step.2

      -- the path of the node that mentions, among the paths in order
      front_path : (path : LabelPath) × (slice_get is.ordered.order.paths from.0 ≡ Some path)
          × IsLeastPath names edges path there.0.set
      front_path =
          zip-at (IsLeastPath names edges) is.ordered.order.paths (sets_of guide.nodes) from.0 there.0.set
          is.ordered.order.least front_at

      -- another edge of the same node that leads there
      same_node : (i : ℕ) (by : Label) → edge_at guide.nodes from i ≡ Some (by, node_number k) → (i < place → ⊥)
          → ComesUpTo (longer front_path.0 label) (longer front_path.0 by)
      same_node i by other late =
          let next =
          and_then-at (λ (n : GuideNode). slice_get n.edges i) (slice_get guide.nodes from.0)
          (by, node_number k) other in
          let node : next.0 ≡ there.0 =
          one_at next.0 there.0 (slice_get guide.nodes from.0) next.1 there.1 in
          let in_row : slice_get there.0.edges i ≡ Some (by, node_number k) =
          subst (λ (n : GuideNode). slice_get n.edges i ≡ Some (by, node_number k)) node next.2 in
          elim (cases_lt place i) [
            | inl less ↦ inr (before-label front_path.0 label by
                (pair_at (λ (a b : Label × Node). a.0.0 < b.0.0) there.0.edges place i (label, node_number k)
                (by, node_number k) (steps-at guide labels names edges is from.0 there.0 there.1).ascending less
                there.2 in_row))
            | inr most ↦ elim (cases_lt i place) [
              | inl early ↦ absurd (late early)
              | inr behind ↦ (
                  let here : i ≡ place = omega (arith, most, behind) in
                  let both : slice_get there.0.edges place ≡ Some (by, node_number k) =
                  subst (λ (n : ℕ). slice_get there.0.edges n ≡ Some (by, node_number k)) here in_row in
                  let same : (label, node_number k) ≡ (by, node_number k) =
                  one_at (label, node_number k) (by, node_number k) (slice_get there.0.edges place) there.2 both in
                  inl (ap (λ (e : Label × Node). longer front_path.0 e.0) same))
            ]
          ]

      step_upto : (path : LabelPath) → IsStepPath guide labels names edges is k set path
          → ComesUpTo (longer front_path.0 label) path
      step_upto path by =
          let other =
          zip-at (IsLeastPath names edges) is.ordered.order.paths (sets_of guide.nodes) by.node by.from
          is.ordered.order.least by.at in
          let upto : ComesUpTo (longer other.0 by.label) (longer by.front by.label) =
          upto-longer other.0 by.front by.label (other.2.least by.front by.leads) in
          subst (λ (p : LabelPath). ComesUpTo (longer front_path.0 label) p) by.path_is
          (upto-trans (longer front_path.0 label) (longer other.0 by.label) (longer by.front by.label)
          (elim (cases_lt from.0 by.node) [
            | inl less ↦ inr (before-longer front_path.0 other.0 label by.label
                (pair_at ComesBefore is.ordered.order.paths from.0 by.node front_path.0 other.0
                is.ordered.order.ascending less front_path.1 other.1))
            | inr most ↦ elim (cases_lt by.node from.0) [
              | inl early ↦ absurd (unled by.node by.place by.label (inl early) by.edge)
              | inr least ↦ (
                  let here : by.node ≡ from.0 = omega (arith, most, least) in
                  let path_at : slice_get is.ordered.order.paths from.0 ≡ Some other.0 =
                  subst (λ (n : ℕ). slice_get is.ordered.order.paths n ≡ Some other.0) here other.1 in
                  let same : front_path.0 ≡ other.0 =
                  one_at front_path.0 other.0 (slice_get is.ordered.order.paths from.0) front_path.1 path_at in
                  let edge_here : edge_at guide.nodes from by.place ≡ Some (by.label, node_number k) =
                  subst (λ (n : ℕ). edge_at guide.nodes (node_number n) by.place ≡ Some (by.label, node_number k))
                  here by.edge in
                  subst (λ (p : LabelPath). ComesUpTo (longer front_path.0 label) (longer p by.label)) same
                  (same_node by.place by.label edge_here
                  (λ early. unled by.node by.place by.label (inr (here, early)) by.edge)))
            ]
          ]) upto)

      step_leads : LeadsTo names edges (longer front_path.0 label) set
      step_leads =
          leads-step names edges front_path.0 there.0.set label set front_path.2.leads step_there
          (set-some guide labels names edges is k set at)

      step_least : IsLeastPath names edges (longer front_path.0 label) set
      step_least = record {
        leads = step_leads;
        least = λ path leads. elim (path-cases guide labels names edges is k set at path leads) [
          | inl by ↦ absurd (not_named unnamed path by)
          | inr by ↦ step_upto path by
        ];
      }

      -- so the node that mentions stands before
      from_before : from.0 < k
      from_before =
          let own =
          zip-at (IsLeastPath names edges) is.ordered.order.paths (sets_of guide.nodes) k set
          is.ordered.order.least at in
          let same : longer front_path.0 label ≡ own.0 =
          one-least names edges (longer front_path.0 label) own.0 set step_least own.2 in
          let before : ComesBefore front_path.0 own.0 =
          subst (λ (p : LabelPath). ComesBefore front_path.0 p) same
          (before-end front_path.0 front_path.0 label (inl refl)) in
          elim (cases_lt from.0 k) [
            | inl less ↦ less
            | inr most ↦ elim (cases_lt k from.0) [
              | inl back ↦ absurd (before-not_back front_path.0 own.0 before
                  (pair_at ComesBefore is.ordered.order.paths k from.0 own.0 front_path.0
                  is.ordered.order.ascending back own.1 front_path.1))
              | inr least ↦ (
                  let here : k ≡ from.0 = omega (arith, most, least) in
                  let path_at : slice_get is.ordered.order.paths from.0 ≡ Some own.0 =
                  subst (λ (n : ℕ). slice_get is.ordered.order.paths n ≡ Some own.0) here own.1 in
                  let one : front_path.0 ≡ own.0 =
                  one_at front_path.0 own.0 (slice_get is.ordered.order.paths from.0) front_path.1 path_at in
                  absurd (before-itself own.0 (subst (λ (p : LabelPath). ComesBefore p own.0) one before)))
            ]
          ]

      first_step : IsStepOf k set from label
      first_step =
          let below : label.0 < length labels =
          label-below guide labels names edges is from.0 there.0 label (node_number k) there.1
          (Contains-from_place there.0.edges place (label, node_number k) there.2) in
          record {
            before = from_before;
            front = there.0.set;
            at = front_at;
            text = get_or labels label.0 [];
            labelled = slice_get-get_or labels label.0 [] below;
            least = λ path least. subst (λ (p : LabelPath). IsLeastPath names edges (longer p label) set)
                (one-least names edges front_path.0 path there.0.set front_path.2 least) step_least;
          }

    pub first-is : (origin : Origin) → IsOrigin guide all_read (node_number k) origin → IsFirst k set origin
    first-is Unmet h = first_unmet h.0 h.1
    first-is (Named place) h = first_named place h.0 h.2 h.3
    first-is (Step from label) h = first_step from label h.0 h.1 h.3 h.4
