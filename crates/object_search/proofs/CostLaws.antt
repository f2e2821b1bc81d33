-- What a search for objects costs: each object that it meets once.
use Rattle.std.proofs.Common.{◌≡◌, ◌≢◌, ◌↔◌, ℕ, suc, ◌≤◌, true, false, List, [], ◌∷◌, get_or, map, All, AllPairs, Contains, Less, refl, sym, ap, ◌∙◌, subst, arith, true≢false}
use Rattle.std.specs.List.{sum_by}
use Rattle.std.specs.Ordering.{nat_cmp}
use Rattle.std.proofs.lemmas.List.{get_or_default}
use Rattle.std.proofs.lemmas.List.Elements.{All-tail, All-contains, Contains-get_or}
use Rattle.std.proofs.lemmas.List.Kept.{AllPairs-cons}
use Rattle.std.proofs.lemmas.List.Sums.{sum_by-cons}
use Rattle.lore_base.proofs.MemberLaws.{Contains-same}
use Rattle.list_laws.proofs.MemberLaws.{Contains-from_map, All-from_members}
use Rattle.list_laws.proofs.OrderLaws.{less_from_cmp}
use Rattle.list_laws.proofs.PairLaws.{AllPairs-nil}
use Rattle.list_laws.proofs.SumLaws.{sum_by-within}
use Rattle.graph_search.specs.Closures.{IsMet, AreApart, AreMarked}
use Rattle.object_search.specs.Types.{Oid, Met}
use Rattle.object_search.specs.inside.Searches.{HasMark}

-- sums over the same items, each once
sum_by-same : {X : Type 0} (f : X → ℕ) (xs ys : List X) → AllPairs (λ a b. a ≢ b) xs → AllPairs (λ a b. a ≢ b) ys
    → ((x : X) → Contains xs x ↔ Contains ys x) → sum_by f xs ≡ sum_by f ys
sum_by-same f xs ys xs_apart ys_apart same =
    let there : All (Contains ys) xs = All-from_members (Contains ys) xs (λ x at. (same x).0 at) in
    let back : All (Contains xs) ys = All-from_members (Contains xs) ys (λ x at. (same x).1 at) in
    let low : sum_by f xs ≤ sum_by f ys = sum_by-within f xs ys xs_apart there in
    let high : sum_by f ys ≤ sum_by f xs = sum_by-within f ys xs ys_apart back in
    omega (arith, low, high)

-- a place has the one mark
pub is_marked : (met : Met) → (((mark : ℕ) → HasMark met mark → ⊥) → ⊥) → met.0 ≡ true
is_marked met some = elim (met.0) as (λ b. met.0 ≡ b → b ≡ true) [
  | true ↦ λ _. refl
  | false ↦ λ is. absurd (some (λ mark has. true≢false (sym has.0 ∙ is)))
] refl

pub met_object : (found : List (Oid × Met)) → AreMarked HasMark found → (oid : Oid) → Contains (map (λ place. place.0) found) oid
    → IsMet HasMark found (oid, 0)
met_object found marked oid at =
    let place = Contains-from_map (λ (p : Oid × Met). p.0) found oid at in
    let mark : (place.0).1.0 ≡ true = is_marked (place.0).1 (All-contains (λ (p : Oid × Met). ((mark : ℕ) → HasMark p.1 mark → ⊥) → ⊥) found place.0 marked place.1) in
    ((place.0).1, subst (λ (o : Oid). Contains found (o, (place.0).1)) place.2 place.1, (mark, refl))

-- the first place meets its object under none of the marks of the others
met_once : (place : Oid × Met) (found : List (Oid × Met)) → AreApart HasMark (place ∷ found) → HasMark place.1 0 → IsMet HasMark found (place.0, 0) → ⊥
met_once place found apart first at =
    let k : ℕ = at.1.0 in
    let entry : Oid × Met = (place.0, at.0) in
    let is : get_or found k place ≡ entry = get_or_default found k place entry at.1.1 ∙ at.1.2 in
    apart 0 (suc k) place (omega arith) (omega (arith, at.1.1)) (sym (ap (λ (p : Oid × Met). p.0) is)) 0 first
    (subst (λ (p : Oid × Met). HasMark p.1 0) (sym is) at.2)

objects_apart : (found : List (Oid × Met)) → AreMarked HasMark found → AreApart HasMark found → AllPairs (λ a b. a ≢ b) (map (λ place. place.0) found)
objects_apart [] marked apart = AllPairs-nil (λ a b. a ≢ b)
objects_apart (place ∷ found) marked apart =
    let rest_marked = All-tail (λ (p : Oid × Met). ((mark : ℕ) → HasMark p.1 mark → ⊥) → ⊥) place found marked in
    let rest_apart : AreApart HasMark found = λ i j d below within. apart (suc i) (suc j) d (omega (arith, below)) (omega (arith, within)) in
    let here : HasMark place.1 0 = (is_marked place.1 (marked 0 place (omega arith)), refl) in
    let oids : List Oid = map (λ (p : Oid × Met). p.0) found in
    AllPairs-cons (λ a b. a ≢ b) place.0 oids
    (λ k d within same. met_once place found apart here
    (met_object found rest_marked place.0 (Contains-same oids (get_or oids k d) place.0 (sym same) (Contains-get_or oids k d within))))
    (objects_apart found rest_marked rest_apart)

sum_by-objects : (f : Oid → ℕ) (found : List (Oid × Met)) → sum_by (λ place. f place.0) found ≡ sum_by f (map (λ place. place.0) found)
sum_by-objects f [] = refl
sum_by-objects f (place ∷ found) =
    let rest = sum_by-objects f found in
    omega (arith, sum_by-cons (λ (p : Oid × Met). f p.0) place found, sum_by-cons f place.0 (map (λ (p : Oid × Met). p.0) found), rest)

sorted_apart : (oids : List Oid) → AllPairs (λ a b. nat_cmp a.0 b.0 ≡ Less) oids → AllPairs (λ a b. a ≢ b) oids
sorted_apart oids ascend = λ i j d below within same.
    let less = less_from_cmp (get_or oids i d).0 (get_or oids j d).0 (ascend i j d below within) in
    omega (arith, less, ap (λ (o : Oid). o.0) same)

-- what all places cost is what their objects do
pub met_cost : (f : Oid → ℕ) (oids sorted : List Oid) (found : List (Oid × Met)) → AreMarked HasMark found → AreApart HasMark found
    → oids ≡ map (λ place. place.0) found → AllPairs (λ a b. nat_cmp a.0 b.0 ≡ Less) sorted
    → ((oid : Oid) → Contains sorted oid ↔ Contains oids oid) → sum_by (λ place. f place.0) found ≡ sum_by f sorted
met_cost f oids sorted found marked apart is ascend members =
    sum_by-objects f found
    ∙ sum_by-same f (map (λ place. place.0) found) sorted (objects_apart found marked apart) (sorted_apart sorted ascend)
    (λ oid. (
      λ at. (members oid).1 (subst (λ (l : List Oid). Contains l oid) (sym is) at),
      λ at. subst (λ (l : List Oid). Contains l oid) is ((members oid).0 at),
    ))
