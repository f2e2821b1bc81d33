-- Copies of a literal grow a graph by just their objects and their edges: all are reached, and none is there before.
use Rattle.std.proofs.Common.{◌≡◌, ◌≢◌, ◌⊎◌, ◌↔◌, ℕ, zero, suc, ◌+◌, ◌*◌, ◌<◌, ◌≤◌, List, [], ◌∷◌, ◌++◌, length, map, get_or, Contains, All, AllPairs, refl, sym, ap, subst, inl, inr, arith, Less}
use Rattle.std.proofs.lemmas.List.{length-map}
use Rattle.std.proofs.lemmas.List.Elements.{Contains-append_left, Contains-append_right, Contains-append_cases, Contains-get_or, All-contains, All-nil, All-cons, All-tail, All-head, All-append, All-get_or, All-from_get_or}
use Rattle.lore_base.proofs.MemberLaws.{Contains-none, Contains-head, Contains-tail, Contains-cases}
use Rattle.lore_base.proofs.ListLaws.{AllPairs-append, AllPairs-head, AllPairs-tail}
use Rattle.lore_base.proofs.WalkLaws.{Walk-within}
use Rattle.list_laws.proofs.MemberLaws.{All-from_members, Contains-from_map, Contains-map}
use Rattle.oem_text.proofs.NumberedLaws.{AreNumberedFrom-append, numbered_from, length-objects_of, numbered_live}
use Rattle.lore_base.specs.Walks.{oid_of, edge_of}
use Rattle.lore_base.specs.Databases.{OemGraph, IsLive, IsLinked, IsComplex, IsReached, IsRooted, AreAscendingEdges}
use Rattle.lore_base.specs.ChangeSets.{NamesThen, EdgesThen, AreEdgesThen, IsReachedThen, AreNumberedFrom, IsAtHand}
use Rattle.oem_changes.specs.Growth.{Grows}
use Rattle.oem_changes.proofs.RootedLaws.{reached_push}
use Rattle.oem_changes.proofs.GrowthLaws.{ascend-distinct}
use Rattle.lorel_trees.specs.Trees.{LiteralTree}
use Rattle.oem_labels.specs.Labels.{first_uses, label_in}
use Rattle.oem_text.specs.Literals.{Body, Target, placed, Arc, bodies, arcs_of, labels_of, numbered, target_place, edge_at, objects_of, edges_of}
use Rattle.oem_text.specs.Layouts.{layout_of, edges_from}
use Rattle.updates.specs.Types.{Oid, Label, Edge, Value, Changes}
use Rattle.updates.specs.Effects.{Pair, targets, no_changes, copied_objects, copied_edges, copying}
use Rattle.updates.specs.Causes.{HasTargets}
use Rattle.updates.specs.inside.Stamps.{moved, stamped_edges}
use Rattle.updates.proofs.HangLaws.{hang}
use Rattle.updates.proofs.StampLaws.{stamped_there, stamped_back}

-- ---- numbers
pub copies_numbered : (next : ℕ) (tree : LiteralTree) (parents : List Oid) → AreNumberedFrom next (copied_objects next tree parents)
copies_numbered next tree [] = tt
copies_numbered next tree (parent ∷ others) =
    AreNumberedFrom-append next (objects_of next tree) (copied_objects (next + length (bodies tree)) tree others)
    (numbered_from next (map (λ (body : Body). body.value) (bodies tree)))
    (subst (λ n. AreNumberedFrom (next + n) (copied_objects (next + length (bodies tree)) tree others)) (sym (length-objects_of next tree))
    (copies_numbered (next + length (bodies tree)) tree others))

-- what holds of each number from `next` on holds of what is numbered so
All-numbered : (R : Oid → Type 0) (next : ℕ) (values : List Value) → ((k : ℕ) → k < length values → R (oid_of (next + k)))
    → All (λ (object : Oid × Value). R object.0) (numbered next values)
All-numbered R next [] h = All-nil (λ (object : Oid × Value). R object.0)
All-numbered R next (value ∷ others) h =
    let first : next + 0 ≡ next = omega arith in
    All-cons (λ (object : Oid × Value). R object.0) (oid_of next, value) (numbered (next + 1) others)
    (subst (λ n. R (oid_of n)) first (h 0 (omega arith)))
    (All-numbered R (next + 1) others
    (λ k low. let same : next + suc k ≡ (next + 1) + k = omega arith in subst (λ n. R (oid_of n)) same (h (suc k) (omega (arith, low)))))

-- ---- what goes along edges from the targets comes to all objects of the copies
module _ (R : Oid → Type 0) (between : List Edge) (table : List (List ℕ)) (label : Label) (tree : LiteralTree)
    (step : (edge : Edge) → Contains between edge → R edge.parent → R edge.child) where
  -- an edge that leads to what stands there in the text
  led : (next : ℕ) (arc : Arc) (child : ℕ) → arc.target ≡ placed child → Contains (arcs_of tree) arc
      → Contains (edges_of next table tree) (edge_of (oid_of (next + arc.parent)) (label_in table arc.label) (oid_of (next + child)))
  led next arc child is at =
      subst (Contains (edges_of next table tree))
      (ap (λ (t : Target). edge_of (oid_of (next + arc.parent)) (label_in table arc.label) (oid_of (next + target_place (bodies tree) t))) is)
      (Contains-map (edge_at next table (bodies tree)) (arcs_of tree) arc at)

  copy_reached : (next : ℕ) → ((edge : Edge) → Contains (edges_of next table tree) edge → Contains between edge) → R (oid_of next)
      → All (λ (object : Oid × Value). R object.0) (objects_of next tree)
  copy_reached next there first =
      let same : next ≡ next + 0 = omega arith in
      let along = λ (arc : Arc) (child : ℕ) (at : Contains (arcs_of tree) arc) (is : arc.target ≡ placed child) (held : R (oid_of (next + arc.parent))).
      step (edge_of (oid_of (next + arc.parent)) (label_in table arc.label) (oid_of (next + child)))
      (there (edge_of (oid_of (next + arc.parent)) (label_in table arc.label) (oid_of (next + child))) (led next arc child is at)) held in
      All-numbered R next (map (λ (body : Body). body.value) (bodies tree)) (λ k low.
      let inside : k < length (bodies tree) = omega (arith, length-map (bodies tree) (λ (body : Body). body.value), low) in
      let at_place : 0 + k ≡ k = omega arith in
      subst (λ place. R (oid_of (next + place))) at_place
      (hang (λ place. R (oid_of (next + place))) 0 tree along (subst (λ n. R (oid_of n)) same first) k inside))

  pub copies_reached : (next : ℕ) (parents : List Oid) → All R parents
      → ((edge : Edge) → Contains (copied_edges next table label tree parents) edge → Contains between edge)
      → All (λ (object : Oid × Value). R object.0) (copied_objects next tree parents)
  copies_reached next [] held there = All-nil (λ (object : Oid × Value). R object.0)
  copies_reached next (parent ∷ others) held there =
      let size = length (bodies tree) in
      let first = edge_of parent label (oid_of next) in
      let own = edges_of next table tree in
      let rest = copied_edges (next + size) table label tree others in
      All-append (λ (object : Oid × Value). R object.0) (objects_of next tree) (copied_objects (next + size) tree others)
      (copy_reached next
      (λ edge at. there edge (Contains-tail first (own ++ rest) edge (Contains-append_left own rest edge at)))
      (step first (there first (Contains-head first (own ++ rest))) (All-head R parent others held)))
      (copies_reached (next + size) others (All-tail R parent others held)
      (λ edge at. there edge (Contains-tail first (own ++ rest) edge (Contains-append_right own rest edge at))))

-- ---- where edges of copies come from and lead to
-- parents are targets, or objects of the copies
pub copied_parent : (next : ℕ) (table : List (List ℕ)) (label : Label) (tree : LiteralTree)
    → All (λ (arc : Arc). arc.parent < length (bodies tree)) (arcs_of tree) → (parents : List Oid) (edge : Edge)
    → Contains (copied_edges next table label tree parents) edge
    → Contains parents edge.parent ⊎ IsLive (copied_objects next tree parents) edge.parent
copied_parent next table label tree inside [] edge h = absurd (Contains-none edge h)
copied_parent next table label tree inside (parent ∷ others) edge h =
    let size = length (bodies tree) in
    let first = edge_of parent label (oid_of next) in
    let own = edges_of next table tree in
    let rest = copied_edges (next + size) table label tree others in
    let objects = objects_of next tree in
    let others_made = copied_objects (next + size) tree others in
    elim (Contains-cases first (own ++ rest) edge h) [
      | inl is ↦ inl (subst (λ (e : Edge). Contains (parent ∷ others) e.parent) is (Contains-head parent others))
      | inr later ↦ elim (Contains-append_cases own rest edge later) [
        | inl here ↦ (
            let found = Contains-from_map (edge_at next table (bodies tree)) (arcs_of tree) edge here in
            let low = All-contains (λ (arc : Arc). arc.parent < size) (arcs_of tree) found.0 inside found.1 in
            let live = numbered_live next (map (λ (body : Body). body.value) (bodies tree)) found.0.parent
            (omega (arith, length-map (bodies tree) (λ (body : Body). body.value), low)) in
            inr (subst (λ (e : Edge). IsLive (objects ++ others_made) e.parent) found.2
            (live.0, Contains-append_left objects others_made (oid_of (next + found.0.parent), live.0) live.1)))
        | inr last ↦ elim (copied_parent (next + size) table label tree inside others edge last) [
          | inl target ↦ inl (Contains-tail parent others edge.parent target)
          | inr made ↦ inr (made.0, Contains-append_right objects others_made (edge.parent, made.0) made.1)
        ]
      ]
    ]

-- ---- distinct items
distinct-cons : {X : Type 0} (x : X) (xs : List X) → (Contains xs x → ⊥) → AllPairs (λ (a b : X). a ≢ b) xs
    → AllPairs (λ (a b : X). a ≢ b) (x ∷ xs)
distinct-cons {X} x xs none h zero zero d lt low = absurd (omega (arith, lt))
distinct-cons {X} x xs none h zero (suc j) d lt low = λ same. none (subst (Contains xs) (sym same) (Contains-get_or xs j d (omega (arith, low))))
distinct-cons {X} x xs none h (suc i) zero d lt low = absurd (omega (arith, lt))
distinct-cons {X} x xs none h (suc i) (suc j) d lt low = h i j d (omega (arith, lt)) (omega (arith, low))

distinct-append : {X : Type 0} (xs ys : List X) → AllPairs (λ (a b : X). a ≢ b) xs → AllPairs (λ (a b : X). a ≢ b) ys
    → ((x : X) → Contains xs x → Contains ys x → ⊥) → AllPairs (λ (a b : X). a ≢ b) (xs ++ ys)
distinct-append {X} xs ys h k apart =
    AllPairs-append (λ (a b : X). a ≢ b) xs ys h k
    (λ i j d in_xs in_ys same. apart (get_or xs i d) (Contains-get_or xs i d in_xs)
    (subst (Contains ys) (sym same) (Contains-get_or ys j d in_ys)))

-- ---- edges of copies
-- an edge between places is moved so far
moved_child : (next : ℕ) (edges : List Edge) (edge : Edge) → Contains (map (moved next) edges) edge
    → (place : Edge) × Contains edges place × (edge.child.0 ≡ next + place.child.0) × (edge.parent.0 ≡ next + place.parent.0)
moved_child next edges edge h =
    let found = Contains-from_map (moved next) edges edge h in
    (found.0, found.1, sym (ap (λ (e : Edge). e.child.0) found.2), sym (ap (λ (e : Edge). e.parent.0) found.2))

-- children have the numbers of copies
stamped_child : (next size : ℕ) (label : Label) (edges : List Edge) (parents : List Oid) (edge : Edge)
    → Contains (stamped_edges next size label edges parents) edge → next ≤ edge.child.0
stamped_child next size label edges [] edge h = absurd (Contains-none edge h)
stamped_child next size label edges (parent ∷ others) edge h =
    let first = edge_of parent label (oid_of next) in
    let own = map (moved next) edges in
    let rest = stamped_edges (next + size) size label edges others in
    elim (Contains-cases first (own ++ rest) edge h) [
      | inl is ↦ let same : next ≡ edge.child.0 = ap (λ (e : Edge). e.child.0) is in omega (arith, same)
      | inr later ↦ elim (Contains-append_cases own rest edge later) [
        | inl here ↦ let place = moved_child next edges edge here in omega (arith, place.2)
        | inr last ↦ let behind = stamped_child (next + size) size label edges others edge last in omega (arith, behind)
      ]
    ]

-- an edge moved back is the one that was moved
moved_once : (next : ℕ) (a b : Edge) → moved next a ≡ moved next b → a ≡ b
moved_once next a b same =
    let parents : next + a.parent.0 ≡ next + b.parent.0 = ap (λ (e : Edge). e.parent.0) same in
    let labels : a.label.0 ≡ b.label.0 = ap (λ (e : Edge). e.label.0) same in
    let children : next + a.child.0 ≡ next + b.child.0 = ap (λ (e : Edge). e.child.0) same in
    let parent : a.parent.0 ≡ b.parent.0 = omega (arith, parents) in
    let child : a.child.0 ≡ b.child.0 = omega (arith, children) in
    λ i. record { parent = record { 0 = parent i }; label = record { 0 = labels i }; child = record { 0 = child i } }

distinct-map : {X Y : Type 0} (f : X → Y) → ((a b : X) → f a ≡ f b → a ≡ b) → (xs : List X) → AllPairs (λ (a b : X). a ≢ b) xs
    → AllPairs (λ (a b : Y). a ≢ b) (map f xs)
distinct-map {X} {Y} f once [] h = λ i j d lt low. absurd (omega (arith, low))
distinct-map {X} {Y} f once (x ∷ xs) h =
    distinct-cons (f x) (map f xs)
    (λ there. let found = Contains-from_map f xs (f x) there in
    AllPairs-head (λ (a b : X). a ≢ b) x xs h found.0 found.1 (sym (once found.0 x found.2)))
    (distinct-map f once xs (AllPairs-tail (λ (a b : X). a ≢ b) x xs h))

stamped_distinct : (old next size : ℕ) (label : Label) (edges : List Edge) → AllPairs (λ (a b : Edge). a ≢ b) edges
    → All (λ (edge : Edge). edge.child.0 < size) edges → 0 < size → old ≤ next
    → (parents : List Oid) → All (λ (parent : Oid). parent.0 < old) parents
    → AllPairs (λ (a b : Edge). a ≢ b) (stamped_edges next size label edges parents)
stamped_distinct old next size label edges distinct inside some low [] live = λ i j d lt within. absurd (omega (arith, within))
stamped_distinct old next size label edges distinct inside some low (parent ∷ others) live =
    let first = edge_of parent label (oid_of next) in
    let own = map (moved next) edges in
    let rest = stamped_edges (next + size) size label edges others in
    distinct-cons first (own ++ rest)
    (λ there. elim (Contains-append_cases own rest first there) [
      | inl here ↦ (
          let place = moved_child next edges first here in
          let below = All-head (λ (p : Oid). p.0 < old) parent others live in
          omega (arith, place.3, below, low))
      | inr later ↦ (let behind = stamped_child (next + size) size label edges others first later in omega (arith, behind, some))
    ])
    (distinct-append own rest (distinct-map (moved next) (moved_once next) edges distinct)
    (stamped_distinct old (next + size) size label edges distinct inside some (omega (arith, low)) others
    (All-tail (λ (p : Oid). p.0 < old) parent others live))
    (λ edge here later.
    let place = moved_child next edges edge here in
    let within = All-contains (λ (e : Edge). e.child.0 < size) edges place.0 inside place.1 in
    let behind = stamped_child (next + size) size label edges others edge later in
    omega (arith, place.2, within, behind)))

-- ---- copies grow the graph
reached_before : (graph : OemGraph) (changes : Changes) (between : List Edge) → AreEdgesThen graph.edges changes between
    → changes.removed ≡ [] → changes.named ≡ [] → changes.unnamed ≡ []
    → (oid : Oid) → IsReached graph.names graph.edges oid → IsReachedThen graph.names changes between oid
reached_before graph changes between linked removed named unnamed oid h = record {
  name = h.name;
  start = h.start;
  word = h.word;
  named = inr (
    h.named,
    λ renamed. elim renamed [
      | inl bound ↦ Contains-none (h.name, bound.0) (subst (λ (l : List (List ℕ × Oid)). Contains l (h.name, bound.0)) named bound.1)
      | inr taken ↦ Contains-none h.name (subst (λ (l : List (List ℕ)). Contains l h.name) unnamed taken)
    ],
  );
  walked = Walk-within graph.edges between
      (λ edge at. (linked.exact edge).1 (inr (at, λ gone. Contains-none edge (subst (λ (l : List Edge). Contains l edge) removed gone))))
      h.start h.word oid h.walked;
}

module _ (table : List (List ℕ)) (graph : OemGraph) (label : List ℕ) (tree : LiteralTree) (rows : List Pair)
    (rooted : IsRooted graph) (live : HasTargets graph rows) (edges : List Edge)
    (some : 0 < length (bodies tree))
    (inside : All (λ (arc : Arc). arc.parent < length (bodies tree)) (arcs_of tree)) where
  -- the table with the texts that come, and the changes
  abbrev then_table : List (List ℕ)
  then_table = table ++ first_uses table (label ∷ labels_of tree)

  abbrev copies : Changes
  copies = copying table graph.next label tree (targets rows)

  target_live : (parent : Oid) → Contains (targets rows) parent → IsLive graph.objects parent
  target_live parent at =
      let found = Contains-from_map (λ (row : Pair). row.0) rows parent at in
      subst (IsLive graph.objects) found.2 (All-contains (λ (row : Pair). IsLive graph.objects row.0) rows found.0 live found.1)

  live_number : (oid : Oid) → IsLive graph.objects oid → oid.0 < graph.next
  live_number oid h =
      (All-contains (λ (o : Oid × Value). (1 ≤ o.0.0) × (o.0.0 < graph.next)) graph.objects (oid, h.0)
      rooted.well_formed.ordered.objects_numbered h.1).1

  pub copies_grow : ((edge : Edge) → Contains edges edge ↔ Contains (edges_from 0 then_table (layout_of tree)) edge)
      → AreAscendingEdges edges → All (λ (edge : Edge). edge.child.0 < length (bodies tree)) edges
      → Grows graph copies (stamped_edges graph.next (length (bodies tree)) (label_in then_table label) edges (targets rows))
  copies_grow same ascend below = record {
    values = refl;
    removed = refl;
    named = refl;
    unnamed = refl;
    numbered = copies_numbered graph.next tree (targets rows);
    parents = All-from_members (λ (edge : Edge). IsAtHand graph copies edge.parent) copies.added (λ edge at.
        elim (copied_parent graph.next then_table (label_in then_table label) tree inside (targets rows) edge at) [
          | inl target ↦ inl (target_live edge.parent target)
          | inr made ↦ inr made
        ]);
    reached = λ between linked.
        copies_reached (IsReachedThen graph.names copies between) between then_table (label_in then_table label) tree
        (λ edge at held. reached_push graph.names copies between edge.parent edge.label edge.child at held) graph.next (targets rows)
        (All-from_members (IsReachedThen graph.names copies between) (targets rows) (λ parent at.
        let there = target_live parent at in
        reached_before graph copies between linked refl refl refl parent
        (All-contains (λ (o : Oid × Value). IsReached graph.names graph.edges o.0) graph.objects (parent, there.0) rooted.reached there.1)))
        (λ edge at. (linked.exact edge).1 (inl at));
    distinct = stamped_distinct graph.next graph.next (length (bodies tree)) (label_in then_table label) edges
        (ascend-distinct edges ascend) below some (omega arith) (targets rows)
        (All-from_members (λ (parent : Oid). parent.0 < graph.next) (targets rows) (λ parent at. live_number parent (target_live parent at)));
    exact = λ edge. (
      λ at. (
        stamped_there then_table (label_in then_table label) tree edges same graph.next (targets rows) edge at,
        λ old.
            let behind = stamped_child graph.next (length (bodies tree)) (label_in then_table label) edges (targets rows) edge at in
            let child = live_number edge.child (All-contains (IsLinked graph.objects) graph.edges edge rooted.well_formed.edges_linked old).child in
            omega (arith, behind, child),
      ),
      λ both. stamped_back then_table (label_in then_table label) tree edges same graph.next (targets rows) edge both.0,
    );
  }

-- no change grows the graph by nothing
pub nothing_grows : (graph : OemGraph) → Grows graph no_changes []
nothing_grows graph = record {
  values = refl;
  removed = refl;
  named = refl;
  unnamed = refl;
  numbered = tt;
  parents = All-nil (λ (edge : Edge). IsAtHand graph no_changes edge.parent);
  reached = λ between linked. All-nil (λ (object : Oid × Value). IsReachedThen graph.names no_changes between object.0);
  distinct = λ i j d lt low. absurd (omega (arith, low));
  exact = λ edge. (λ at. absurd (Contains-none edge at), λ both. both.0);
}
