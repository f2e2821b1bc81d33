-- A search over the children of objects finds what walks reach.
use Rattle.std.proofs.Common.{◌≡◌, ◌↔◌, ℕ, ◌==◌, true, List, [], ◌∷◌, ◌++◌, get_or, map, AllPairs, Contains, Less, refl, sym, ap, subst, eq-eqb}
use Rattle.std.specs.Ordering.{nat_cmp}
use Rattle.lore_base.specs.Walks.{Walk, out_of, edge_of}
use Rattle.lore_base.specs.TargetSets.{ListsInOrder}
use Rattle.lore_base.proofs.MemberLaws.{Contains-same, Contains-filter, unfiltered}
use Rattle.list_laws.proofs.MemberLaws.{Contains-map, Contains-from_map}
use Rattle.list_laws.proofs.OrderLaws.{less_from_cmp}
use Rattle.graph_search.specs.Closures.{IsMet, LeadAlong, LeadsFromPlace, IsClosure, Lists}
use Rattle.object_search.specs.Types.{Oid, Label, Edge, Met}
use Rattle.object_search.specs.Reached.{IsWalkedFrom}
use Rattle.object_search.specs.inside.Searches.{HasMark, met_at, HasChild, same_oid}
use Rattle.object_search.proofs.CostLaws.{met_object}

-- the children of an object are what it leads to
pub leads_to_children : (edges : List Edge) (oid : Oid) (met : Met) (old new : List (Oid × Met))
    → new ≡ old ++ map (λ edge. (edge.child, met)) (out_of oid edges)
    → Lists HasMark (LeadsFromPlace HasMark (HasChild edges) (oid, met)) old new
leads_to_children edges oid met old new is = record {
  more = map (λ edge. (edge.child, met)) (out_of oid edges);
  is = is;
  exact = λ there. (
    λ at.
        let found = Contains-from_map (λ (edge : Edge). (edge.child, met)) (out_of oid edges) (there.0, at.0) at.1 in
        let edge = found.0 in
        let leaves = unfiltered (λ (e : Edge). e.parent.0 == oid.0) edges edge found.1 in
        let parent : edge.parent ≡ oid = same_oid edge.parent oid leaves.1 in
        let child : edge.child ≡ there.0 = ap (λ (p : Oid × Met). p.0) found.2 in
        let same : edge ≡ edge_of oid edge.label there.0 = λ i. record { parent = parent i; label = edge.label; child = child i } in (
          there.1,
          subst (λ (m : Met). HasMark m there.1) (sym (ap (λ (p : Oid × Met). p.1) found.2)) at.2,
          (edge.label, Contains-same edges edge (edge_of oid edge.label there.0) same leaves.0, refl),
        ),
    λ leads.
        let edge = edge_of oid leads.2.0 there.0 in
        let leaves = Contains-filter (λ (e : Edge). e.parent.0 == oid.0) edges edge leads.2.1 (eq-eqb oid.0 oid.0 refl) in
        (met, Contains-map (λ (e : Edge). (e.child, met)) (out_of oid edges) edge leaves, subst (HasMark met) leads.2.2 leads.1),
  );
}

module _ (edges : List Edge) where
  -- ways of the search are walks
  walk_of : (way : List (Oid × ℕ)) (here there : Oid × ℕ) → LeadAlong (HasChild edges) here way there
      → (word : List Label) × Walk edges here.0 word there.0
  walk_of [] here there same = ([], ap (λ (p : Oid × ℕ). p.0) same)
  walk_of (next ∷ way) here there along =
      let rest = walk_of way next there along.1 in
      (along.0.0 ∷ rest.0, (next.0, along.0.1, rest.1))

  way_of : (mark : ℕ) (word : List Label) (x y : Oid) → Walk edges x word y
      → (way : List (Oid × ℕ)) × LeadAlong (HasChild edges) (x, mark) way (y, mark)
  way_of mark [] x y same = ([], λ i. (same i, mark))
  way_of mark (label ∷ word) x y walked =
      let rest = way_of mark word walked.0 y walked.2 in
      ((walked.0, mark) ∷ rest.0, ((label, walked.1, refl), rest.1))

  started : (starts : List Oid) (there : Oid × ℕ) → IsMet HasMark (map met_at starts) there → Contains starts there.0
  started starts there at =
      let found = Contains-from_map met_at starts (there.0, at.0) at.1 in
      Contains-same starts found.0 there.0 (ap (λ (p : Oid × Met). p.0) found.2) found.1

  starting : (starts : List Oid) (oid : Oid) → Contains starts oid → IsMet HasMark (map met_at starts) (oid, 0)
  starting starts oid at = (record { 0 = true }, Contains-map met_at starts oid at, (refl, refl))

  -- what is met is what is walked to
  met_walked : (starts : List Oid) (found : List (Oid × Met)) → IsClosure HasMark (HasChild edges) (map met_at starts) found
      → (oid : Oid) → Contains (map (λ place. place.0) found) oid ↔ IsWalkedFrom edges starts oid
  met_walked starts found closure oid = (
    λ at.
        let here = met_object found closure.marked oid at in
        let led = (closure.exact (oid, 0)).0 here in
        let walk = walk_of led.1 led.0 (oid, 0) led.3 in
        ((led.0).0, walk.0, started starts led.0 led.2, walk.1),
    λ walked.
        let way = way_of 0 walked.1 walked.0 oid walked.3 in
        let here = (closure.exact (oid, 0)).1 ((walked.0, 0), way.0, starting starts walked.0 walked.2, way.1) in
        Contains-map (λ (p : Oid × Met). p.0) found (oid, here.0) here.1,
  )

-- what was met, in the order of the numbers
pub walked_in_order : (edges : List Edge) (starts oids sorted : List Oid) (found : List (Oid × Met))
    → IsClosure HasMark (HasChild edges) (map met_at starts) found → oids ≡ map (λ place. place.0) found
    → AllPairs (λ a b. nat_cmp a.0 b.0 ≡ Less) sorted → ((oid : Oid) → Contains sorted oid ↔ Contains oids oid)
    → ListsInOrder (IsWalkedFrom edges starts) sorted
walked_in_order edges starts oids sorted found closure is ascend members = record {
  ascending = λ i j d below within. less_from_cmp (get_or sorted i d).0 (get_or sorted j d).0 (ascend i j d below within);
  exact = λ oid.
      let walked = met_walked edges starts found closure oid in (
        λ at. walked.0 (subst (λ (l : List Oid). Contains l oid) is ((members oid).0 at)),
        λ h. (members oid).1 (subst (λ (l : List Oid). Contains l oid) (sym is) (walked.1 h)),
      );
}
