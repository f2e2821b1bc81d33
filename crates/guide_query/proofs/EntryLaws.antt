-- The entries of a guide, and the paths that lead to one of its sets: a name's, or one with a label more than a path
-- that leads to another set.
use Rattle.std.proofs.Common.{◌≡◌, ◌≢◌, ◌⊎◌, ℕ, ◌<◌, inl, inr, zero, suc, List, [], ◌∷◌, ◌++◌, length, Option, Some}
use Rattle.std.proofs.Common.{None, Less, Contains, refl, sym, ap, ◌∙◌, subst}
use Rattle.std.specs.List.{slice_get, AllZip}
use Rattle.std.specs.Prelude.{option_and_then}
use Rattle.std.proofs.lemmas.List.Elements.{All-contains}
use Rattle.lore_base.specs.Bytes.{bytes_cmp}
use Rattle.lore_base.specs.Walks.{Walk, edge_of}
use Rattle.lore_base.specs.TargetSets.{LabelPath, LeadsTo, IsTargetSet, IsStep}
use Rattle.lore_base.proofs.MemberLaws.{Contains-none}
use Rattle.lore_base.proofs.TargetLaws.{ListsInOrder-unique}
use Rattle.list_laws.proofs.ZipLaws.{AllZip-place}
use Rattle.list_laws.proofs.PlaceLaws.{Contains-from_place, place_of_member, pair_at}
use Rattle.lore_base.specs.PathOrder.{ComesBefore}
use Rattle.dataguide.specs.Guides.{GuideGraph, sets_of, edge_at, node_number, HasSet, HasItsSteps, IsEntry}
use Rattle.dataguide.specs.inside.Trails.{start_path, longer}
use Rattle.dataguide.proofs.TargetSteps.{walks-leave, longer_words_step}
use Rattle.set_steps.proofs.PlaceLaws.{at-unmap, one-place}
use Rattle.dataguide.proofs.StopLaws.{keys-ascend, target-none}
use Rattle.set_steps.proofs.PairLaws.{some-member}
use Rattle.guide_laws.proofs.StepLaws.{target_is}
use Rattle.guide_query.specs.Types.{Oid, Label, Edge, Node, GuideNode}
use Rattle.guide_query.specs.GuideLines.{IsLabelledGuide}

-- a word has no label, or a last one
last_label : (word : List Label) → (word ≡ []) ⊎ ((front : List Label) × (last : Label) × (word ≡ front ++ last ∷ []))
last_label [] = inl refl
last_label (label ∷ word) = elim (last_label word) [
  | inl none ↦ inr ([], label, ap (λ (l : List Label). label ∷ l) none)
  | inr h ↦ inr (label ∷ h.0, h.1, ap (λ (l : List Label). label ∷ l) h.2)
]

pub and_then-at : {A B : Type 0} (f : A → Option B) (o : Option A) (y : B) → option_and_then f o ≡ Some y
    → (x : A) × (o ≡ Some x) × (f x ≡ Some y)
and_then-at f None y h = cc
and_then-at f (Some x) y h = (x, refl, h)

-- items at the same places
pub zip-at : {X Y : Type 0} (R : X → Y → Type 0) (xs : List X) (ys : List Y) (k : ℕ) (y : Y) → AllZip R xs ys
    → slice_get ys k ≡ Some y → (x : X) × (slice_get xs k ≡ Some x) × R x y
zip-at R [] [] k y zip at = cc
zip-at R [] (first ∷ ys) k y zip at = absurd zip
zip-at R (x ∷ xs) [] k y zip at = cc
zip-at R (x ∷ xs) (first ∷ ys) zero y zip at = (x, refl, let same : first ≡ y = cc in subst (R x) same zip.0)
zip-at R (x ∷ xs) (first ∷ ys) (suc k) y zip at = zip-at R xs ys k y zip.1 at

module _ (guide : GuideGraph) (labels : List (List ℕ)) (names : List (List ℕ × Oid)) (edges : List Edge)
    (is : IsLabelledGuide guide labels names edges) where
  -- the name that the entry at a place has
  pub record IsNamed (place : ℕ) (name : List ℕ) (node : Node) : Type 0 where
    pub named : List ℕ × Oid
    pub at : slice_get names place ≡ Some named
    pub called : named.0 ≡ name
    pub set : HasSet guide.nodes node (named.1 ∷ [])

  pub name-sound : (place : ℕ) (name : List ℕ) (node : Node) → slice_get guide.entries place ≡ Some (name, node)
      → IsNamed place name node
  name-sound place name node at =
      let from =
      zip-at (IsEntry guide.nodes) names guide.entries place (name, node) is.ordered.stands.entries at in
      record { named = from.0; at = from.1; called = sym from.2.name; set = from.2.node }

  -- the place of a name, and of its entry, which has the node
  pub record IsPlaced (named : List ℕ × Oid) (node : Node) : Type 0 where
    pub place : ℕ
    pub at : slice_get names place ≡ Some named
    pub leads : slice_get guide.entries place ≡ Some (named.0, node)

  pub name-all : (named : List ℕ × Oid) (k : ℕ) → Contains names named
      → HasSet guide.nodes (node_number k) (named.1 ∷ []) → IsPlaced named (node_number k)
  name-all named k there has =
      let at = place_of_member names named there in
      let entry =
      AllZip-place (IsEntry guide.nodes) names guide.entries at.0 named is.ordered.stands.entries at.1 in
      let number : entry.0.1.0 ≡ k =
      one-place (sets_of guide.nodes) is.ordered.stands.nodes.apart entry.0.1.0 k (named.1 ∷ []) entry.2.node has in
      let node : entry.0.1 ≡ node_number k = ap (λ (n : ℕ). node_number n) number in
      record {
        place = at.0;
        at = at.1;
        leads = entry.1 ∙ ap (λ (n : List ℕ). Some (n, entry.0.1)) entry.2.name
            ∙ ap (λ (n : Node). Some (named.0, n)) node;
      }

  -- names ascend with their places
  pub names-before : (p q : ℕ) (a b : List ℕ × Oid) → p < q → slice_get names p ≡ Some a → slice_get names q ≡ Some b
      → ComesBefore (start_path a.0) (start_path b.0)
  names-before p q a b less first second =
      inr (
        refl,
        inl (pair_at (λ (s t : List ℕ × Oid). bytes_cmp s.0 t.0 ≡ Less) names p q a b
            (keys-ascend names is.table) less first second),
      )

  pub steps-at : (m : ℕ) (there : GuideNode) → slice_get guide.nodes m ≡ Some there
      → HasItsSteps edges guide.nodes there
  steps-at m there at =
      All-contains (HasItsSteps edges guide.nodes) guide.nodes there is.ordered.stands.steps
      (Contains-from_place guide.nodes m there at)

  pub set-some : (k : ℕ) (set : List Oid) → slice_get (sets_of guide.nodes) k ≡ Some set → set ≢ []
  set-some k set at =
      ((is.ordered.stands.nodes.exact set).0 (Contains-from_place (sets_of guide.nodes) k set at)).1.some

  -- the labels of a node's edges have texts
  pub label-below : (m : ℕ) (there : GuideNode) (label : Label) (next : Node) → slice_get guide.nodes m ≡ Some there
      → Contains there.edges (label, next) → label.0 < length labels
  label-below m there label next at edge =
      let step = ((steps-at m there at).exact label next).0 edge in
      let one = some-member step.0 (set-some next.0 step.0 step.1) in
      let leaves = (step.2.exact one.0).0 one.1 in
      All-contains (λ (e : Edge). e.label.0 < length labels) edges (edge_of leaves.from label one.0) is.labelled
      leaves.edge

  -- a path that leads to the set of a node is a name's, or leads on from the set of a node by one of its edges
  pub record IsNamePath (k : ℕ) (set : List Oid) (path : LabelPath) : Type 0 where
    pub named : List ℕ × Oid
    pub placed : IsPlaced named (node_number k)
    pub path_is : start_path named.0 ≡ path

  pub record IsStepPath (k : ℕ) (set : List Oid) (path : LabelPath) : Type 0 where
    pub node : ℕ
    pub place : ℕ
    pub label : Label
    pub front : LabelPath
    pub from : List Oid
    pub at : slice_get (sets_of guide.nodes) node ≡ Some from
    pub leads : LeadsTo names edges front from
    pub edge : edge_at guide.nodes (node_number node) place ≡ Some (label, node_number k)
    pub path_is : longer front label ≡ path

  module _ (k : ℕ) (set : List Oid) (at : slice_get (sets_of guide.nodes) k ≡ Some set) (path : LabelPath)
      (leads : LeadsTo names edges path set) where
    by_name : path.word ≡ [] → IsNamePath k set path
    by_name none =
        let alone : IsTargetSet edges leads.start [] set =
        subst (λ (w : List Label). IsTargetSet edges leads.start w set) none leads.target in
        let same : set ≡ leads.start ∷ [] =
        ListsInOrder-unique (Walk edges leads.start []) set (leads.start ∷ []) alone (target-none edges leads.start) in
        record {
          named = (path.name, leads.start);
          placed = name-all (path.name, leads.start) k leads.named (at ∙ ap (λ (s : List Oid). Some s) same);
          path_is = λ i. record { name = path.name; word = sym none i };
        }

    by_step : (front : List Label) (last : Label) → path.word ≡ front ++ last ∷ [] → IsStepPath k set path
    by_step front last word =
        let before = target_is edges leads.start front in
        let whole : IsTargetSet edges leads.start (front ++ last ∷ []) set =
        subst (λ (w : List Label). IsTargetSet edges leads.start w set) word leads.target in
        let one = some-member set leads.some in
        let leaves =
        (walks-leave edges leads.start front last before.0 before.1 one.0).0 ((whole.exact one.0).0 one.1) in
        let shorter : LabelPath = record { name = path.name; word = front } in
        let led : LeadsTo names edges shorter before.0 = record {
          start = leads.start;
          named = leads.named;
          target = before.1;
          some = λ none. Contains-none leaves.from
              (subst (λ (s : List Oid). Contains s leaves.from) none leaves.member);
        } in
        let there =
        place_of_member (sets_of guide.nodes) before.0 ((is.ordered.stands.nodes.exact before.0).1 (shorter, led)) in
        let node = at-unmap (λ (n : GuideNode). n.set) guide.nodes there.0 before.0 there.1 in
        let step : IsStep edges before.0 last set =
        (longer_words_step edges leads.start front last before.0 set before.1).0 whole in
        let edge = ((steps-at there.0 node.0 node.1).exact last (node_number k)).1
        (set, at, subst (λ (s : List Oid). IsStep edges s last set) (sym node.2) step) in
        let place = place_of_member node.0.edges (last, node_number k) edge in
        record {
          node = there.0;
          place = place.0;
          label = last;
          front = shorter;
          from = before.0;
          at = there.1;
          leads = led;
          edge = ap (option_and_then (λ (n : GuideNode). slice_get n.edges place.0)) node.1 ∙ place.1;
          path_is = λ i. record { name = path.name; word = sym word i };
        }

    pub path-cases : IsNamePath k set path ⊎ IsStepPath k set path
    path-cases = elim (last_label path.word) [
      | inl none ↦ inl (by_name none)
      | inr h ↦ inr (by_step h.0 h.1 h.2)
    ]
