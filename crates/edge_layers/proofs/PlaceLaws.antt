-- The places of edges in another order.
use Rattle.std.proofs.Common.{◌≡◌, ◌↔◌, ℕ, ◌+◌, ◌-◌, ◌<◌, ◌&&◌, nat_eq, nat_cmp, Bool, true, Less, List, [], ◌∷◌, ◌++◌, length, get_or, map, take, AllPairs, Contains, refl, sym, ap, ◌∙◌, inl, inr, subst, arith}
use Rattle.std.specs.declared.cmp.Ordering.{Ordering}
use Rattle.std.proofs.lemmas.Bool.{cases_lt}
use Rattle.std.proofs.lemmas.List.{get_or-map, length-map, get_or_default, get_or_append_left, get_or-append_right, length_push, take_more, length-take}
use Rattle.std.proofs.lemmas.Bool.Decides.{nat_tests}
use Rattle.std.specs.Ordering.{ordering_then}
use Rattle.lore_base.specs.Walks.{edge_cmp}
use Rattle.edge_layers.specs.EdgeTests.{edge_eq}
use Rattle.std.proofs.lemmas.List.Elements.{Contains-get_or}
use Rattle.list_laws.proofs.MemberLaws.{Contains-map}
use Rattle.edge_layers.specs.Types.{In}
use Rattle.edge_lists.specs.Commits.{ArePlaces}
use Rattle.edge_layers.specs.Types.{Edge}
use Rattle.edge_layers.specs.declared.places.Placed.{Placed}
use Rattle.edge_layers.specs.inside.Places.{ArePlaced}
use Rattle.edge_layers.specs.Turned.{turn}

-- edges with their places, put into an order in which none comes before itself
pub places_are : (cmp : Placed → Placed → Ordering) (edges : List Edge) (placed sorted : List Placed) (places : List ℕ) → ((a : Placed) → cmp a a ≡ Less → ⊥) → ArePlaced edges placed
    → AllPairs (λ a b. cmp a b ≡ Less) sorted → ((p : Placed) → Contains sorted p ↔ Contains placed p) → places ≡ map (λ (p : Placed). p.place) sorted → ArePlaces (length edges) places
places_are cmp edges placed sorted places never are ascend members is = subst (ArePlaces (length edges)) (sym is) (record {
  within = λ k d lt.
      let lt_k : k < length sorted = omega (arith, lt, length-map sorted (λ (p : Placed). p.place)) in
      let at = (members (get_or sorted k any)).0 (Contains-get_or sorted k any lt_k) in
      let here = place_is (get_or sorted k any) at in
      let read = get_or-map (λ (p : Placed). p.place) sorted k any d lt_k in
      omega (arith, at.1, here, read, are.count);
  once = λ i j d lt len same.
      let lt_j : j < length sorted = omega (arith, len, length-map sorted (λ (p : Placed). p.place)) in
      let lt_i : i < length sorted = omega (arith, lt, lt_j) in
      let at_i = (members (get_or sorted i any)).0 (Contains-get_or sorted i any lt_i) in
      let at_j = (members (get_or sorted j any)).0 (Contains-get_or sorted j any lt_j) in
      let read_i = get_or-map (λ (p : Placed). p.place) sorted i any d lt_i in
      let read_j = get_or-map (λ (p : Placed). p.place) sorted j any d lt_j in
      let one : at_i.0 ≡ at_j.0 = omega (arith, place_is (get_or sorted i any) at_i, place_is (get_or sorted j any) at_j, read_i, read_j, same) in
      let equal : get_or sorted i any ≡ get_or sorted j any
      = sym at_i.2 ∙ get_or_default placed at_i.0 (get_or sorted i any) any at_i.1 ∙ ap (λ n. get_or placed n any) one ∙ sym (get_or_default placed at_j.0 (get_or sorted j any) any at_j.1) ∙ at_j.2 in
      never (get_or sorted j any) (subst (λ (p : Placed). cmp p (get_or sorted j any) ≡ Less) equal (ascend i j any lt lt_j));
  all = λ place lt.
      let lt_p : place < length placed = omega (arith, lt, are.count) in
      let there = (members (get_or placed place any)).1 (Contains-get_or placed place any lt_p) in
      subst (λ (n : ℕ). Contains (map (λ (p : Placed). p.place) sorted) n) (are.places place any lt_p) (Contains-map (λ (p : Placed). p.place) sorted (get_or placed place any) there);
})
  where
    any : Placed
    any = record { edge = record { parent = record { 0 = 0 }; label = record { 0 = 0 }; child = record { 0 = 0 } }; place = 0 }

    place_is : (p : Placed) → (at : Contains placed p) → p.place ≡ at.0
    place_is p at = ap (λ (x : Placed). x.place) (sym at.2) ∙ are.places at.0 p at.1

pub placed_none : ArePlaced [] []
placed_none = record { count = refl; turned = λ k d e lt. absurd (omega (arith, lt)); places = λ k d lt. absurd (omega (arith, lt)) }

pub placed_more : (edges : List Edge) (placed new : List Placed) (edge : Edge) (one : Placed) → ArePlaced edges placed → one.edge ≡ turn In edge → one.place ≡ length edges → new ≡ placed ++ one ∷ []
    → ArePlaced (edges ++ edge ∷ []) new
placed_more edges placed new edge one are turned_is place is = subst (ArePlaced (edges ++ edge ∷ [])) (sym is) (record {
  count = length_push placed one ∙ ap (λ n. n + 1) are.count ∙ sym (length_push edges edge);
  turned = λ k d e lt. elim (cases_lt k (length placed)) [
    | inl early ↦ rw (get_or_append_left placed (one ∷ []) d k early, get_or_append_left edges (edge ∷ []) e k (omega (arith, early, are.count))) (are.turned k d e early)
    | inr late ↦
        let at : k ≡ length placed = omega (arith, length_push placed one, lt) in
        let here : k - length placed ≡ 0 = omega arith in
        let there : k - length edges ≡ 0 = omega (arith, are.count) in
        let first : get_or (placed ++ one ∷ []) k d ≡ one = get_or-append_right placed (one ∷ []) (length placed) k d refl late ∙ ap (λ n. get_or (one ∷ []) n d) here in
        let second : get_or (edges ++ edge ∷ []) k e ≡ edge = get_or-append_right edges (edge ∷ []) (length edges) k e refl (omega (arith, late, are.count)) ∙ ap (λ n. get_or (edge ∷ []) n e) there in
        rw (first, second) turned_is
  ];
  places = λ k d lt. elim (cases_lt k (length placed)) [
    | inl early ↦ rw (get_or_append_left placed (one ∷ []) d k early) (are.places k d early)
    | inr late ↦
        let at : k ≡ length placed = omega (arith, length_push placed one, lt) in
        let here : k - length placed ≡ 0 = omega arith in
        let first : get_or (placed ++ one ∷ []) k d ≡ one = get_or-append_right placed (one ∷ []) (length placed) k d refl late ∙ ap (λ n. get_or (one ∷ []) n d) here in
        ap (λ (p : Placed). p.place) first ∙ omega (arith, place, at, are.count)
  ];
})

-- the places before one, and the next one
pub placed_step : (edges : List Edge) (i : ℕ) (d : Edge) → i < length edges → (placed new : List Placed) (one : Placed) → ArePlaced (take i edges) placed → one.edge ≡ turn In (get_or edges i d) → one.place ≡ i
    → new ≡ placed ++ one ∷ [] → ArePlaced (take (i + 1) edges) new
placed_step edges i d lt placed new one are turned_is place is =
    let count : length (take i edges) ≡ i = omega (arith, length-take i edges, lt) in
    subst (λ (l : List Edge). ArePlaced l new) (sym (take_more edges i d lt)) (placed_more (take i edges) placed new (get_or edges i d) one are turned_is (place ∙ sym count) is)

-- ---- the order of placed edges
abbrev pub placed_cmp : Placed → Placed → Ordering
placed_cmp a b = ordering_then (edge_cmp a.edge b.edge) (nat_cmp a.place b.place)

abbrev pub placed_eq : Placed → Placed → Bool
placed_eq a b = edge_eq a.edge b.edge && nat_eq a.place b.place

pub placed_never : (a : Placed) → placed_cmp a a ≡ Less → ⊥
placed_never a less = grind (arith, nat_tests)

pub placed_same : (a b : Placed) → placed_eq a b ≡ true → a ≡ b
placed_same a b h =
    let parent : a.edge.parent.0 ≡ b.edge.parent.0 = grind (arith, nat_tests) in
    let label : a.edge.label.0 ≡ b.edge.label.0 = grind (arith, nat_tests) in
    let child : a.edge.child.0 ≡ b.edge.child.0 = grind (arith, nat_tests) in
    let place : a.place ≡ b.place = grind (arith, nat_tests) in
    λ i. record { edge = record { parent = record { 0 = parent i }; label = record { 0 = label i }; child = record { 0 = child i } }; place = place i }
