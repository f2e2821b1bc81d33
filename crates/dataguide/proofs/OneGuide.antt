-- A database has one guide whose nodes stand in the order of their least paths.
use Rattle.std.proofs.Common.{◌≡◌, ℕ, ◌<◌, inl, inr, List, [], ◌∷◌, length, map, Some, All, AllPairs, Contains, refl}
use Rattle.std.proofs.Common.{sym, ap, ◌∙◌, subst, zero, suc, arith}
use Rattle.std.specs.List.{slice_get, AllZip}
use Rattle.std.proofs.lemmas.List.{get_or-map, length-map}
use Rattle.std.proofs.lemmas.List.Elements.{All-contains, All-cons}
use Rattle.lore_base.proofs.ListLaws.{AllPairs-unique}
use Rattle.list_laws.proofs.PlaceLaws.{Contains-from_place}
use Rattle.list_laws.proofs.MemberLaws.{Contains-from_map}
use Rattle.dataguide.specs.Types.{Oid, Label, Edge, Node, GuideNode}
use Rattle.lore_base.specs.TargetSets.{LabelPath, IsStep, AreTargetSets}
use Rattle.lore_base.specs.PathOrder.{IsLeastPath, AreInPathOrder, ComesBefore}
use Rattle.set_explorer.specs.Nodes.{sets_of, HasItsSteps, IsEntry}
use Rattle.dataguide.specs.GuideLaws.{HasOneOrderedGuide}
use Rattle.set_explorer.specs.inside.Trails.{TrailStop}
use Rattle.set_explorer.proofs.PathOrder.{before-not_back}
use Rattle.set_steps.proofs.PlaceLaws.{one-place}
use Rattle.set_explorer.proofs.TrailLaws.{set_of}

AllPairs-unmap : {X Y : Type 0} (f : X → Y) (R : Y → Y → Type 0) (xs : List X) → AllPairs R (map f xs)
    → AllPairs (λ a b. R (f a) (f b)) xs
AllPairs-unmap f R xs pairs i j d less within =
    let there : j < length (map f xs) = omega (arith, within, length-map xs f) in
    rw (get_or-map f xs i d (f d) (omega (arith, less, within)), get_or-map f xs j d (f d) within) at
    (pairs i j (f d) less there)

-- paths with the sets at the same places
abbrev stops_of : List LabelPath → List (List Oid) → List TrailStop
stops_of [] sets = []
stops_of (path ∷ paths) [] = []
stops_of (path ∷ paths) (set ∷ sets) = record { path = path; set = set } ∷ stops_of paths sets

abbrev path_of : TrailStop → LabelPath
path_of stop = stop.path

module _ (R : LabelPath → List Oid → Type 0) where
  sets-of_stops : (paths : List LabelPath) (sets : List (List Oid)) → AllZip R paths sets
      → map set_of (stops_of paths sets) ≡ sets
  sets-of_stops [] [] zip = refl
  sets-of_stops [] (set ∷ sets) zip = absurd zip
  sets-of_stops (path ∷ paths) [] zip = absurd zip
  sets-of_stops (path ∷ paths) (set ∷ sets) zip = ap (λ (l : List (List Oid)). set ∷ l) (sets-of_stops paths sets zip.1)

  paths-of_stops : (paths : List LabelPath) (sets : List (List Oid)) → AllZip R paths sets
      → map path_of (stops_of paths sets) ≡ paths
  paths-of_stops [] [] zip = refl
  paths-of_stops [] (set ∷ sets) zip = absurd zip
  paths-of_stops (path ∷ paths) [] zip = absurd zip
  paths-of_stops (path ∷ paths) (set ∷ sets) zip =
      ap (λ (l : List LabelPath). path ∷ l) (paths-of_stops paths sets zip.1)

  all-stops : (paths : List LabelPath) (sets : List (List Oid)) → AllZip R paths sets
      → All (λ stop. R stop.path stop.set) (stops_of paths sets)
  all-stops [] [] zip = λ k d within. absurd (omega (arith, within))
  all-stops [] (set ∷ sets) zip = absurd zip
  all-stops (path ∷ paths) [] zip = absurd zip
  all-stops (path ∷ paths) (set ∷ sets) zip =
      All-cons (λ (stop : TrailStop). R stop.path stop.set) (record { path = path; set = set }) (stops_of paths sets) zip.0
      (all-stops paths sets zip.1)

module _ (names : List (List ℕ × Oid)) (edges : List Edge) where
  -- of one set there is one least path
  pub one-least : (path other : LabelPath) (set : List Oid) → IsLeastPath names edges path set
      → IsLeastPath names edges other set → path ≡ other
  one-least path other set first second = elim (first.least other second.leads) [
    | inl same ↦ same
    | inr before ↦ elim (second.least path first.leads) [
      | inl same ↦ sym same
      | inr back ↦ absurd (before-not_back path other before back)
    ]
  ]

  module _ (sets others : List (List Oid)) (first : AreTargetSets names edges sets)
      (second : AreTargetSets names edges others)
      (order : AreInPathOrder names edges sets) (next : AreInPathOrder names edges others) where
    stop-within : (stop : TrailStop) → Contains (stops_of order.paths sets) stop → Contains (stops_of next.paths others) stop
    stop-within stop there =
        let least = All-contains (λ (s : TrailStop). IsLeastPath names edges s.path s.set) (stops_of order.paths sets) stop
        (all-stops (IsLeastPath names edges) order.paths sets order.least) there in
        let in_others = (second.exact stop.set).1 (stop.path, least.leads) in
        let in_stops =
        subst (λ (l : List (List Oid)). Contains l stop.set)
        (sym (sets-of_stops (IsLeastPath names edges) next.paths others next.least)) in_others in
        let from = Contains-from_map set_of (stops_of next.paths others) stop.set in_stops in
        let least_there =
        All-contains (λ (s : TrailStop). IsLeastPath names edges s.path s.set) (stops_of next.paths others) from.0
        (all-stops (IsLeastPath names edges) next.paths others next.least) from.1 in
        let path : from.0.path ≡ stop.path =
        one-least from.0.path stop.path stop.set (subst (λ (s : List Oid). IsLeastPath names edges from.0.path s)
        from.2 least_there) least in
        let set : from.0.set ≡ stop.set = from.2 in
        let same : from.0 ≡ stop = λ i. record { path = path i; set = set i } in
        subst (λ (s : TrailStop). Contains (stops_of next.paths others) s) same from.1

  stops-ascend : (sets : List (List Oid)) (order : AreInPathOrder names edges sets)
      → AllPairs (λ a b. ComesBefore a.path b.path) (stops_of order.paths sets)
  stops-ascend sets order =
      AllPairs-unmap path_of ComesBefore (stops_of order.paths sets)
      (subst (λ (l : List LabelPath). AllPairs ComesBefore l)
      (sym (paths-of_stops (IsLeastPath names edges) order.paths sets order.least)) order.ascending)

  pub one-list : (sets others : List (List Oid)) → AreTargetSets names edges sets → AreTargetSets names edges others
      → AreInPathOrder names edges sets → AreInPathOrder names edges others → sets ≡ others
  one-list sets others first second order next =
      let stops : stops_of order.paths sets ≡ stops_of next.paths others =
      AllPairs-unique (λ (a b : TrailStop). ComesBefore a.path b.path)
      (λ a b before back. before-not_back a.path b.path before back)
      (stops_of order.paths sets) (stops_of next.paths others) (stops-ascend sets order) (stops-ascend others next)
      (λ stop. (
        stop-within sets others first second order next stop,
        stop-within others sets second first next order
            stop,
      )) in
      sym (sets-of_stops (IsLeastPath names edges) order.paths sets order.least) ∙ ap (map set_of) stops
      ∙ sets-of_stops (IsLeastPath names edges) next.paths others next.least

  -- the edges of a node are told by the sets
  row-within : (nodes others : List GuideNode) (node other : GuideNode) → sets_of nodes ≡ sets_of others
      → node.set ≡ other.set
      → HasItsSteps edges nodes node → HasItsSteps edges others other → (edge : Label × Node)
      → Contains node.edges edge → Contains other.edges edge
  row-within nodes others node other sets set steps next edge there =
      let step = (steps.exact edge.0 edge.1).0 there in
      (next.exact edge.0 edge.1).1 (
        step.0,
        subst (λ (l : List (List Oid)). slice_get l edge.1.0 ≡ Some step.0) sets step.1,
        subst
            (λ (s : List Oid). IsStep edges s edge.0 step.0) set step.2,
      )

  one-row : (nodes others : List GuideNode) (node other : GuideNode) → sets_of nodes ≡ sets_of others
      → node.set ≡ other.set
      → HasItsSteps edges nodes node → HasItsSteps edges others other → node.edges ≡ other.edges
  one-row nodes others node other sets set steps next =
      AllPairs-unique (λ (a b : Label × Node). a.0.0 < b.0.0) (λ a b before back. omega (arith, before, back))
      node.edges other.edges steps.ascending next.ascending
      (λ edge. (
        row-within nodes others node other sets set steps next edge,
        row-within others nodes other node
            (sym sets) (sym set) next steps edge,
      ))

  same-nodes : (xs ys : List GuideNode) → sets_of xs ≡ sets_of ys
      → ((k : ℕ) (x y : GuideNode) → slice_get xs k ≡ Some x → slice_get ys k ≡ Some y → x.set ≡ y.set
      → x.edges ≡ y.edges) → xs ≡ ys
  same-nodes [] [] sets rows = refl
  same-nodes [] (y ∷ ys) sets rows = cc
  same-nodes (x ∷ xs) [] sets rows = cc
  same-nodes (x ∷ xs) (y ∷ ys) sets rows =
      let set : x.set ≡ y.set = cc in
      let others : sets_of xs ≡ sets_of ys = cc in
      let row : x.edges ≡ y.edges = rows zero x y refl refl set in
      let one : x ≡ y = λ i. record { set = set i; edges = row i } in
      let later : xs ≡ ys = same-nodes xs ys others (λ k a b first second. rows (suc k) a b first second) in
      λ i. one i ∷ later i

  one-entries : (nodes others : List GuideNode) → sets_of nodes ≡ sets_of others
      → AllPairs (λ a b. (a ≡ b) → ⊥) (sets_of nodes)
      → (names : List (List ℕ × Oid)) (xs ys : List (List ℕ × Node)) → AllZip (IsEntry nodes) names xs
      → AllZip (IsEntry others) names ys → xs ≡ ys
  one-entries nodes others sets apart [] [] [] first second = refl
  one-entries nodes others sets apart [] [] (y ∷ ys) first second = absurd second
  one-entries nodes others sets apart [] (x ∷ xs) ys first second = absurd first
  one-entries nodes others sets apart (named ∷ names) [] ys first second = absurd first
  one-entries nodes others sets apart (named ∷ names) (x ∷ xs) [] first second = absurd second
  one-entries nodes others sets apart (named ∷ names) (x ∷ xs) (y ∷ ys) first second =
      let name : x.0 ≡ y.0 = first.0.name ∙ sym second.0.name in
      let has = subst (λ (l : List (List Oid)). slice_get l y.1.0 ≡ Some (named.1 ∷ [])) (sym sets) second.0.node in
      let number : x.1.0 ≡ y.1.0 = one-place (sets_of nodes) apart x.1.0 y.1.0 (named.1 ∷ []) first.0.node has in
      let node : x.1 ≡ y.1 = ap (λ (k : ℕ). record { 0 = k }) number in
      let later : xs ≡ ys = one-entries nodes others sets apart names xs ys first.1 second.1 in
      λ i. (name i, node i) ∷ later i

pub one_ordered_guide : HasOneOrderedGuide
one_ordered_guide names edges guide other first second =
    let sets =
    one-list names edges (sets_of guide.nodes) (sets_of other.nodes) first.stands.nodes second.stands.nodes first.order
    second.order in
    let nodes : guide.nodes ≡ other.nodes = same-nodes names edges guide.nodes other.nodes sets
    (λ k x y at there set. one-row names edges guide.nodes other.nodes x y sets set
    (All-contains (HasItsSteps edges guide.nodes) guide.nodes x first.stands.steps (Contains-from_place guide.nodes k x at))
    (All-contains (HasItsSteps edges other.nodes) other.nodes y second.stands.steps
    (Contains-from_place other.nodes k y there))) in
    let entries : guide.entries ≡ other.entries =
    one-entries names edges guide.nodes other.nodes sets first.stands.nodes.apart names guide.entries other.entries
    first.stands.entries second.stands.entries in
    λ i. record { nodes = nodes i; entries = entries i }
