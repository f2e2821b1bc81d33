-- Rows of objects, edge by edge and object by object.
use Rattle.std.proofs.Common.{◌≡◌, ℕ, ◌<◌, ◌≤◌, inl, inr, nat_eq, true, None, Some, List, [], ◌∷◌, ◌++◌, length, get_or}
use Rattle.std.proofs.Common.{refl, sym, ap, ◌∙◌, subst, arith}
use Rattle.std.specs.List.{AllPairs, AllZip, Contains, slice_get}
use Rattle.std.specs.Cmp.{IsTotalOrder}
use Rattle.std.proofs.lemmas.Bool.Decides.{nat_tests}
use Rattle.std.proofs.lemmas.Cmp.{then_total, on_total, nat_cmp_total}
use Rattle.std.proofs.lemmas.List.Elements.{Contains-append_left, Contains-push, Contains-push_cases}
use Rattle.lore_base.specs.Walks.{edge_of, entering_cmp, ListsEntering}
use Rattle.lore_base.proofs.MemberLaws.{Contains-none, Contains-filter}
use Rattle.list_laws.proofs.AscentLaws.{never_less}
use Rattle.list_laws.proofs.PlaceLaws.{Contains-from_place}
use Rattle.list_laws.proofs.SumLaws.{distinct_no_longer}
use Rattle.one_index.specs.Types.{Oid, Edge}
use Rattle.read_costs.specs.ReadCosts.{in_of}
use Rattle.one_index.specs.inside.Parted.{AreSameEdges}
use Rattle.one_index.specs.inside.Rows.{label_of, IsParentPut, IsRowOf, IsRow}
use Rattle.one_index.proofs.PlaceLaws.{place_once}

-- ---- lists whose items go in pairs
pub AllZip-long : {X Y : Type 0} (R : X → Y → Type 0) (xs : List X) (ys : List Y) → AllZip R xs ys → length ys ≡ length xs
AllZip-long R [] [] pairs = refl
AllZip-long R [] (y ∷ ys) pairs = absurd pairs
AllZip-long R (x ∷ xs) [] pairs = absurd pairs
AllZip-long R (x ∷ xs) (y ∷ ys) pairs = omega (arith, AllZip-long R xs ys pairs.1)

pub AllZip-push : {X Y : Type 0} (R : X → Y → Type 0) (xs : List X) (ys : List Y) (x : X) (y : Y) → AllZip R xs ys → R x y
    → AllZip R (xs ++ x ∷ []) (ys ++ y ∷ [])
AllZip-push R [] [] x y pairs one = (one, tt)
AllZip-push R [] (z ∷ ys) x y pairs one = absurd pairs
AllZip-push R (w ∷ xs) [] x y pairs one = absurd pairs
AllZip-push R (w ∷ xs) (z ∷ ys) x y pairs one = (pairs.0, AllZip-push R xs ys x y pairs.1 one)

-- ---- the row of some edges
module _ (objects : List Oid) where
  pub IsRowOf-none : IsRowOf objects [] []
  IsRowOf-none label place = (
    λ at. absurd (Contains-none (label, place) at),
    λ from. absurd (Contains-none from.0 from.1),
  )

  -- one more edge, whose parent has a place
  pub IsRowOf-more : (edges : List Edge) (edge : Edge) (row : List (ℕ × ℕ)) (parent : ℕ)
      → ((i j : ℕ) (x : Oid) → slice_get objects i ≡ Some x → slice_get objects j ≡ Some x → i ≡ j)
      → slice_get objects parent ≡ Some edge.parent → IsRowOf objects edges row
      → IsRowOf objects (edges ++ edge ∷ []) (row ++ (edge.label.0, parent) ∷ [])
  IsRowOf-more edges edge row parent once found before label place = (
    λ at. elim (Contains-push_cases row (edge.label.0, parent) (label, place) at) [
      | inl earlier ↦ (let from = (before label place).0 earlier in
          (from.0, Contains-append_left edges (edge ∷ []) from.0 from.1, from.2, from.3))
      | inr last ↦ (
        edge,
        Contains-push edges edge,
        ap (λ (e : ℕ × ℕ). e.0) last,
        ap (λ (e : ℕ × ℕ). slice_get objects e.1) (sym last) ∙ found,
      )
    ],
    λ from. elim (Contains-push_cases edges edge from.0 from.1) [
      | inl earlier ↦ Contains-append_left row ((edge.label.0, parent) ∷ []) (label, place)
          ((before label place).1 (from.0, earlier, from.2, from.3))
      | inr last ↦
          let by : edge.label.0 ≡ label = ap (λ (e : Edge). e.label.0) last ∙ from.2 in
          let here : parent ≡ place = once parent place edge.parent found (from.3 ∙ ap (λ (e : Edge). Some e.parent) (sym last)) in
          let is : (edge.label.0, parent) ≡ (label, place) = λ i. (by i, here i) in
          subst (λ (e : ℕ × ℕ). Contains (row ++ (edge.label.0, parent) ∷ []) e) is (Contains-push row (edge.label.0, parent))
    ],
  )

  -- one more edge, whose parent has no place
  pub IsRowOf-skip : (edges : List Edge) (edge : Edge) (row : List (ℕ × ℕ))
      → ((place : ℕ) → slice_get objects place ≡ Some edge.parent → ⊥) → IsRowOf objects edges row
      → IsRowOf objects (edges ++ edge ∷ []) row
  IsRowOf-skip edges edge row none before label place = (
    λ at. (let from = (before label place).0 at in
        (from.0, Contains-append_left edges (edge ∷ []) from.0 from.1, from.2, from.3)),
    λ from. elim (Contains-push_cases edges edge from.0 from.1) [
      | inl earlier ↦ (before label place).1 (from.0, earlier, from.2, from.3)
      | inr last ↦ absurd (none place (from.3 ∙ ap (λ (e : Edge). Some e.parent) (sym last)))
    ],
  )

  pub IsRowOf-put : AllPairs (λ a b. a.0 < b.0) objects → (edges : List Edge) (edge : Edge) (row next : List (ℕ × ℕ))
      → IsParentPut objects edge row next → IsRowOf objects edges row → IsRowOf objects (edges ++ edge ∷ []) next
  IsRowOf-put ascend edges edge row next (inl put) before =
      subst (λ (r : List (ℕ × ℕ)). IsRowOf objects (edges ++ edge ∷ []) r) (sym put.2)
      (IsRowOf-more edges edge row put.0 (place_once objects ascend) put.1 before)
  IsRowOf-put ascend edges edge row next (inr still) before =
      subst (λ (r : List (ℕ × ℕ)). IsRowOf objects (edges ++ edge ∷ []) r) (sym still.1)
      (IsRowOf-skip edges edge row (λ place at. still.0 (Contains-from_place objects place edge.parent at)) before)

  -- the row of all edges that enter an object is its row
  pub IsRow-entering : (links : List Edge) (oid : Oid) (list : List Edge) (row : List (ℕ × ℕ)) → ListsEntering links oid None list
      → IsRowOf objects list row → IsRow links objects oid row
  IsRow-entering links oid list row lists are label place = (
    λ at.
        let from = (are label place).0 at in
        let edge = (lists.exact from.0).0 from.1 in
        let is : from.0 ≡ edge_of from.0.parent (label_of label) oid =
        λ i. record { parent = from.0.parent; label = label_of (from.2 i); child = edge.1 i } in
        (from.0.parent, from.3, subst (λ (e : Edge). Contains links e) is edge.0),
    λ from.
        let edge : Edge = edge_of from.0 (label_of label) oid in
        (are label place).1 (edge, (lists.exact edge).1 (from.2, refl, tt), refl, from.1),
  )

-- ---- reads
entering_total : IsTotalOrder entering_cmp
entering_total = then_total (on_total (λ (e : Edge). e.label.0) nat_cmp_total) (on_total (λ (e : Edge). e.parent.0) nat_cmp_total)

-- no more edges are listed than enter the object
pub few_entering : (links edges : List Edge) → AreSameEdges links edges → (oid : Oid) (list : List Edge)
    → ListsEntering links oid None list → length list ≤ length (in_of oid edges)
few_entering links edges same_edges oid list lists =
    distinct_no_longer list (in_of oid edges)
    (λ i j d less within same. never_less entering_cmp entering_total (get_or list i d)
    (ap (entering_cmp (get_or list i d)) same ∙ lists.ascending i j d less within))
    (λ edge at.
    let there = (lists.exact edge).0 at in
    let number : edge.child.0 ≡ oid.0 = ap (λ (o : Oid). o.0) there.1 in
    let test : nat_eq edge.child.0 oid.0 ≡ true = grind (arith, nat_tests) in
    Contains-filter (λ (e : Edge). nat_eq e.child.0 oid.0) edges edge ((same_edges edge).0 there.0) test)
