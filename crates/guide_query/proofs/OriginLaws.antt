-- Where nodes are mentioned first, as the reading goes on.
use Rattle.std.proofs.Common.{◌≡◌, ℕ, ◌+◌, ◌≤◌, ◌==◌, Bool, true, false, inl, inr, List, length}
use Rattle.std.proofs.Common.{Option, Some, refl, sym, ap, ◌∙◌, subst, arith}
use Rattle.std.specs.List.{slice_get}
use Rattle.std.specs.Prelude.{option_and_then}
use Rattle.std.proofs.lemmas.Bool.{cases_lt}
use Rattle.std.proofs.lemmas.Bool.Decides.{nat_tests}
use Rattle.std.proofs.lemmas.Option.{slice_get_within}
use Rattle.dataguide.specs.Guides.{GuideGraph, edge_at, node_number}
use Rattle.guide_query.specs.Types.{Label, Node, GuideNode, Origin, Unmet, Named, Step}
use Rattle.guide_query.specs.inside.Origins.{Reading, IsRead, HasRow, IsUnnamed, IsUnled, IsOrigin, AreOrigins}
use Rattle.guide_query.specs.inside.Origins.{first_of}

other_number : (a b : ℕ) → (a == b) ≡ false → b ≡ a → ⊥
other_number a b apart same = grind (arith, nat_tests)

one_number : (a b : ℕ) → (a == b) ≡ true → b ≡ a
one_number a b same = grind (arith, nat_tests)

one_node : (node : Node) (k : ℕ) → node.0 ≡ k → node ≡ node_number k
one_node node k same = ap (λ (n : ℕ). node_number n) same

-- two answers of one look-up have the same number
found_number : {X : Type 0} (a b : X) (x y : Node) (found : Option (X × Node)) → found ≡ Some (a, x)
    → found ≡ Some (b, y) → x.0 ≡ y.0
found_number {X} a b x y found first second =
    let both : Some (a, x) ≡ Some (b, y) = sym first ∙ second in
    let same : (a, x) ≡ (b, y) = cc in
    ap (λ (e : X × Node). e.1.0) same

-- the edges of a node that is there
row-at : (nodes : List GuideNode) (node : Node) (row : List (Label × Node)) → HasRow nodes node row → (place : ℕ)
    → edge_at nodes node place ≡ slice_get row place
row-at nodes node row has place =
    ap (option_and_then (λ (n : GuideNode). slice_get n.edges place)) has.1
    ∙ ap (λ (r : List (Label × Node)). slice_get r place) has.2

module _ (guide : GuideGraph) where
  -- what a mention notes of each origin
  abbrev pub IsNoted : Node → Origin → List Origin → List Origin → Type 0
  IsNoted node origin old new =
      (k : ℕ) (now : Origin) → slice_get new k ≡ Some now
      → (there : Origin) × (slice_get old k ≡ Some there) × (now ≡ first_of (k == node.0) there origin)

  origins-noted : (reading next : Reading) (node : Node) (origin : Origin) (old new : List Origin)
      → length new ≡ length old → IsNoted node origin old new
      → ((k : ℕ) (there : Origin) → IsOrigin guide reading (node_number k) there
      → IsOrigin guide next (node_number k) (first_of (k == node.0) there origin))
      → AreOrigins guide reading old → AreOrigins guide next new
  origins-noted reading next node origin old new long noted step are = record {
    long = long ∙ are.long;
    each = λ k now at. (
        let from = noted k now at in
        subst (λ (o : Origin). IsOrigin guide next (node_number k) o) (sym from.2)
        (step k from.0 (are.each k from.0 from.1)));
  }

  -- ---- one entry more
  unnamed-more : (p : ℕ) (node : Node) → ((name : List ℕ) → slice_get guide.entries p ≡ Some (name, node) → ⊥)
      → IsUnnamed guide p node → IsUnnamed guide (p + 1) node
  unnamed-more p node none before place name less named = elim (cases_lt place p) [
    | inl early ↦ before place name early named
    | inr late ↦ (
        let here : place ≡ p = omega (arith, less, late) in
        none name (subst (λ (q : ℕ). slice_get guide.entries q ≡ Some (name, node)) here named))
  ]

  name-same : (p k : ℕ) → ((name : List ℕ) → slice_get guide.entries p ≡ Some (name, node_number k) → ⊥)
      → (there : Origin) → IsOrigin guide (record { entries = p; nodes = 0; edges = 0 }) (node_number k) there
      → IsOrigin guide (record { entries = p + 1; nodes = 0; edges = 0 }) (node_number k) there
  name-same p k none Unmet is = (unnamed-more p (node_number k) none is.0, is.1)
  name-same p k none (Named place) is = (is.0, omega (arith, is.1), is.2, is.3)
  name-same p k none (Step from label) is = (unnamed-more p (node_number k) none is.0, is.1, is.2, is.3, is.4)

  name-first : (p k : ℕ) (name : List ℕ) (node : Node) → slice_get guide.entries p ≡ Some (name, node)
      → (b : Bool) → (k == node.0) ≡ b → (there : Origin)
      → IsOrigin guide (record { entries = p; nodes = 0; edges = 0 }) (node_number k) there
      → IsOrigin guide (record { entries = p + 1; nodes = 0; edges = 0 }) (node_number k)
      (first_of b there (Named p))
  name-first p k name node named false apart there is =
      name-same p k
      (λ other here. other_number k node.0 apart
      (found_number name other node (node_number k) (slice_get guide.entries p) named here)) there is
  name-first p k name node named true same Unmet is = (
    name,
    omega arith,
    named ∙ ap (λ (n : Node). Some (name, n)) (one_node node k (one_number k node.0 same)),
    is.0,
  )
  name-first p k name node named true same (Named place) is = (is.0, omega (arith, is.1), is.2, is.3)
  name-first p k name node named true same (Step from label) is = elim is.2 [
    | inl less ↦ absurd (omega (arith, less))
    | inr here ↦ absurd (omega (arith, here.1))
  ]

  pub name-noted : (p : ℕ) (name : List ℕ) (node : Node) (old new : List Origin)
      → slice_get guide.entries p ≡ Some (name, node) → length new ≡ length old → IsNoted node (Named p) old new
      → AreOrigins guide (record { entries = p; nodes = 0; edges = 0 }) old
      → AreOrigins guide (record { entries = p + 1; nodes = 0; edges = 0 }) new
  name-noted p name node old new named long noted are =
      origins-noted (record { entries = p; nodes = 0; edges = 0 }) (record { entries = p + 1; nodes = 0; edges = 0 })
      node (Named p) old new long noted (λ k there is. name-first p k name node named (k == node.0) refl there is) are

  -- ---- one edge more
  read-more : (from place m j : ℕ) → IsRead from place m j → IsRead from place m (j + 1)
  read-more from place m j read = elim read [
    | inl less ↦ inl less
    | inr here ↦ inr (here.0, omega (arith, here.1))
  ]

  unled-more : (m j : ℕ) (node : Node)
      → ((label : Label) → edge_at guide.nodes (node_number m) j ≡ Some (label, node) → ⊥)
      → IsUnled guide m j node → IsUnled guide m (j + 1) node
  unled-more m j node none before from place label read edge = elim read [
    | inl less ↦ before from place label (inl less) edge
    | inr here ↦ elim (cases_lt place j) [
      | inl early ↦ before from place label (inr (here.0, early)) edge
      | inr late ↦ (
          let at : place ≡ j = omega (arith, here.1, late) in
          let there =
          subst (λ (q : ℕ). edge_at guide.nodes (node_number from) q ≡ Some (label, node)) at edge in
          none label
          (subst (λ (q : ℕ). edge_at guide.nodes (node_number q) j ≡ Some (label, node)) here.0 there))
    ]
  ]

  edge-first : (p m j k : ℕ) (label : Label) (node : Node)
      → edge_at guide.nodes (node_number m) j ≡ Some (label, node) → (b : Bool) → (k == node.0) ≡ b
      → (there : Origin) → IsOrigin guide (record { entries = p; nodes = m; edges = j }) (node_number k) there
      → IsOrigin guide (record { entries = p; nodes = m; edges = j + 1 }) (node_number k)
      (first_of b there (Step (node_number m) label))
  edge-first p m j k label node edge false apart Unmet is = (
    is.0,
    unled-more m j (node_number k)
        (λ other here. other_number k node.0 apart
        (found_number label other node (node_number k) (edge_at guide.nodes (node_number m) j) edge here)) is.1,
  )
  edge-first p m j k label node edge true same Unmet is = (
    is.0,
    j,
    inr (refl, omega arith),
    edge ∙ ap (λ (n : Node). Some (label, n)) (one_node node k (one_number k node.0 same)),
    is.1,
  )
  edge-first p m j k label node edge false apart (Named place) is = is
  edge-first p m j k label node edge true same (Named place) is = is
  edge-first p m j k label node edge false apart (Step from by) is =
      (is.0, is.1, read-more from.0 is.1 m j is.2, is.3, is.4)
  edge-first p m j k label node edge true same (Step from by) is =
      (is.0, is.1, read-more from.0 is.1 m j is.2, is.3, is.4)

  pub edge-noted : (p m j : ℕ) (row : List (Label × Node)) (edge : Label × Node) (old new : List Origin)
      → HasRow guide.nodes (node_number m) row → slice_get row j ≡ Some edge → length new ≡ length old
      → IsNoted edge.1 (Step (node_number m) edge.0) old new
      → AreOrigins guide (record { entries = p; nodes = m; edges = j }) old
      → AreOrigins guide (record { entries = p; nodes = m; edges = j + 1 }) new
  edge-noted p m j row edge old new has at long noted are =
      let there : edge_at guide.nodes (node_number m) j ≡ Some edge =
      row-at guide.nodes (node_number m) row has j ∙ at in
      origins-noted (record { entries = p; nodes = m; edges = j }) (record { entries = p; nodes = m; edges = j + 1 })
      edge.1 (Step (node_number m) edge.0) old new long noted
      (λ k origin is. edge-first p m j k edge.0 edge.1 there (k == edge.1.0) refl origin is) are

  -- ---- the end of a node's edges
  -- from a place on the node has no edge
  abbrev IsOver : ℕ → ℕ → Type 0
  IsOver m j =
      (place : ℕ) (edge : Label × Node) → j ≤ place → edge_at guide.nodes (node_number m) place ≡ Some edge → ⊥

  row-read : (from place m j : ℕ) → IsRead from place m j → IsRead from place (m + 1) 0
  row-read from place m j read = elim read [
    | inl less ↦ inl (omega (arith, less))
    | inr here ↦ inl (omega (arith, here.0))
  ]

  row-unled : (m j : ℕ) (node : Node) → IsOver m j → IsUnled guide m j node → IsUnled guide (m + 1) 0 node
  row-unled m j node over before from place label read edge = elim read [
    | inl less ↦ elim (cases_lt from m) [
      | inl early ↦ before from place label (inl early) edge
      | inr late ↦ (
          let here : from ≡ m = omega (arith, less, late) in
          elim (cases_lt place j) [
            | inl seen ↦ before from place label (inr (here, seen)) edge
            | inr behind ↦ over place (label, node) (omega (arith, behind))
                (subst (λ (q : ℕ). edge_at guide.nodes (node_number q) place ≡ Some (label, node)) here edge)
          ])
    ]
    | inr here ↦ absurd (omega (arith, here.1))
  ]

  row-first : (p m j k : ℕ) → IsOver m j → (there : Origin)
      → IsOrigin guide (record { entries = p; nodes = m; edges = j }) (node_number k) there
      → IsOrigin guide (record { entries = p; nodes = m + 1; edges = 0 }) (node_number k) there
  row-first p m j k over Unmet is = (is.0, row-unled m j (node_number k) over is.1)
  row-first p m j k over (Named place) is = is
  row-first p m j k over (Step from by) is = (is.0, is.1, row-read from.0 is.1 m j is.2, is.3, is.4)

  pub row-end : (p m j : ℕ) (row : List (Label × Node)) (origins : List Origin)
      → HasRow guide.nodes (node_number m) row → length row ≤ j
      → AreOrigins guide (record { entries = p; nodes = m; edges = j }) origins
      → AreOrigins guide (record { entries = p; nodes = m + 1; edges = 0 }) origins
  row-end p m j row origins has full are =
      let over : IsOver m j = λ place edge behind at.
      omega (
        arith,
        full,
        behind,
        slice_get_within row place edge
            (sym (row-at guide.nodes (node_number m) row has place) ∙ at),
      ) in
      record { long = are.long; each = λ k origin at. row-first p m j k over origin (are.each k origin at) }
