-- The edges that a reader gives are the arcs of an object.
use Rattle.std.proofs.Common.{◌≡◌, ◌≢◌, ◌↔◌, ◌+◌, ◌≤◌, ◌==◌, ◌&&◌, cond, true, false, true≢false, inl, inr, List, [], ◌∷◌, length, get_or, filter, None, All, AllPairs, Contains, refl, sym, ap, ◌∙◌, subst, arith}
use Rattle.std.specs.Cmp.{nat_cmp_is}
use Rattle.std.specs.List.{list_any}
use Rattle.std.proofs.lemmas.List.Folds.{Any-from_list_any, list_any_at}
use Rattle.std.proofs.lemmas.List.Kept.{AllPairs-cons}
use Rattle.std.specs.Ordering.{nat_cmp, ordering_then}
use Rattle.std.specs.declared.cmp.Ordering.TheVariants.{Less, Equal}
use Rattle.std.proofs.lemmas.Bool.{and_parts, eqb-true, eq-eqb}
use Rattle.std.proofs.lemmas.List.Elements.{Contains-get_or}
use Rattle.lore_base.specs.Walks.{edge_of, out_of, entering_cmp, ListsEntering}
use Rattle.lore_base.proofs.MemberLaws.{Contains-filter, unfiltered, Contains-same, Contains-head, Contains-tail, Contains-cases}
use Rattle.list_laws.proofs.SumLaws.{length-within}
use Rattle.product_walk.specs.Types.{Oid, Edge}
use Rattle.product_walk.specs.ProductWalks.{reads_in}
use Rattle.product_walk.specs.inside.Arcs.{along, against, AreArcs, same_edge, each_once, reads_entering}

-- the edges that leave an object
pub arcs_along : (edges : List Edge) (oid : Oid) → AreArcs (along edges) (λ edge. edge.child) oid (out_of oid edges)
arcs_along edges oid label y = (
  λ arc. (edge_of oid label y, Contains-filter (λ edge. edge.parent.0 == oid.0) edges (edge_of oid label y) arc (eq-eqb oid.0 oid.0 refl), refl, refl),
  λ found.
      let edge : Edge = found.0 in
      let kept = unfiltered (λ e. e.parent.0 == oid.0) edges edge found.1 in
      let from : edge.parent.0 ≡ oid.0 = eqb-true edge.parent.0 oid.0 kept.1 in
      let is : edge ≡ edge_of oid label y = λ i. record { parent = record { 0 = from i }; label = found.2 i; child = found.3 i } in
      Contains-same edges edge (edge_of oid label y) is kept.0,
)

-- the edges that enter an object
pub arcs_against : (edges list : List Edge) (oid : Oid) → ListsEntering edges oid None list → AreArcs (against edges) (λ edge. edge.parent) oid list
arcs_against edges list oid lists label y = (
  λ arc. (edge_of y label oid, (lists.exact (edge_of y label oid)).1 (arc, refl, tt), refl, refl),
  λ found.
      let edge : Edge = found.0 in
      let kept = (lists.exact edge).0 found.1 in
      let is : edge ≡ edge_of y label oid = λ i. record { parent = found.3 i; label = found.2 i; child = kept.1 i } in
      Contains-same edges edge (edge_of y label oid) is kept.0,
)

not_below : (a b : Edge) → entering_cmp a b ≡ Less → a ≢ b
not_below a b below same =
    let equal : entering_cmp a a ≡ Equal =
    ap (λ r. ordering_then r (nat_cmp a.parent.0 a.parent.0)) (sym (nat_cmp_is a.label.0 a.label.0 Equal refl))
    ∙ sym (nat_cmp_is a.parent.0 a.parent.0 Equal refl) in
    let less : entering_cmp a a ≡ Less = subst (λ (e : Edge). entering_cmp a e ≡ Less) (sym same) below in
    cc (sym equal ∙ less)

-- an edge passes the test for itself alone
same_edge-true : (a b : Edge) → same_edge a b ≡ true → a ≡ b
same_edge-true a b h =
    let first = and_parts (a.parent.0 == b.parent.0) ((a.label.0 == b.label.0) && (a.child.0 == b.child.0)) h in
    let second = and_parts (a.label.0 == b.label.0) (a.child.0 == b.child.0) first.1 in
    let parent = eqb-true a.parent.0 b.parent.0 first.0 in
    let label = eqb-true a.label.0 b.label.0 second.0 in
    let child = eqb-true a.child.0 b.child.0 second.1 in
    λ i. record { parent = record { 0 = parent i }; label = record { 0 = label i }; child = record { 0 = child i } }

same_edge-refl : (a : Edge) → same_edge a a ≡ true
same_edge-refl a = rw (eq-eqb a.parent.0 a.parent.0 refl, eq-eqb a.label.0 a.label.0 refl, eq-eqb a.child.0 a.child.0 refl) refl

-- an edge stands among others, or it doesn't
stands : (edge : Edge) (edges : List Edge) → list_any (same_edge edge) edges ≡ true → Contains edges edge
stands edge edges h =
    let any = Any-from_list_any (same_edge edge) edges h in
    (any.0, any.2, ap (λ e. get_or edges any.0 e) (same_edge-true edge any.1 any.4) ∙ any.3 ∙ sym (same_edge-true edge any.1 any.4))

apart_from : (edge : Edge) (edges : List Edge) → list_any (same_edge edge) edges ≡ false → Contains edges edge → ⊥
apart_from edge edges none at =
    true≢false (sym (list_any_at (same_edge edge) edges at.0 edge at.1 (ap (same_edge edge) at.2 ∙ same_edge-refl edge)) ∙ none)

-- each edge once: the same edges
pub each_once-same : (edges : List Edge) (edge : Edge) → Contains (each_once edges) edge ↔ Contains edges edge
each_once-same [] edge = (λ h. h, λ h. h)
each_once-same (first ∷ edges) edge =
    elim (list_any (same_edge first) edges) as (λ b. list_any (same_edge first) edges ≡ b → Contains (cond b (each_once edges) (first ∷ each_once edges)) edge ↔ Contains (first ∷ edges) edge) [
      | true ↦ λ again. (
        λ h. Contains-tail first edges edge ((each_once-same edges edge).0 h),
        λ h. (each_once-same edges edge).1 (elim (Contains-cases first edges edge h) [
          | inl same ↦ Contains-same edges first edge same (stands first edges again)
          | inr later ↦ later
        ]),
      )
      | false ↦ λ last. (
        λ h. elim (Contains-cases first (each_once edges) edge h) [
          | inl same ↦ Contains-same (first ∷ edges) first edge same (Contains-head first edges)
          | inr later ↦ Contains-tail first edges edge ((each_once-same edges edge).0 later)
        ],
        λ h. elim (Contains-cases first edges edge h) [
          | inl same ↦ Contains-same (first ∷ each_once edges) first edge same (Contains-head first (each_once edges))
          | inr later ↦ Contains-tail first (each_once edges) edge ((each_once-same edges edge).1 later)
        ],
      )
    ] refl

-- and none twice
pub each_once-apart : (edges : List Edge) → AllPairs (λ a b. a ≢ b) (each_once edges)
each_once-apart [] = λ i j d below within. absurd (omega (arith, within))
each_once-apart (first ∷ edges) =
    elim (list_any (same_edge first) edges) as (λ b. list_any (same_edge first) edges ≡ b → AllPairs (λ a b. a ≢ b) (cond b (each_once edges) (first ∷ each_once edges))) [
      | true ↦ λ again. each_once-apart edges
      | false ↦ λ last. AllPairs-cons (λ a b. a ≢ b) first (each_once edges)
          (λ k d within same. apart_from first edges last
          ((each_once-same edges first).0 (Contains-same (each_once edges) (get_or (each_once edges) k d) first (sym same) (Contains-get_or (each_once edges) k d within))))
          (each_once-apart edges)
    ] refl

entering : List Edge → Oid → List Edge
entering edges oid = filter (λ edge. edge.child.0 == oid.0) edges

-- a reader gives as many edges as enter the object, each once
pub count_entering : (edges list : List Edge) (oid : Oid) → ListsEntering edges oid None list → 1 + length list ≡ reads_entering edges oid
unfolding entering
count_entering edges list oid lists =
    let once = each_once (entering edges oid) in
    let apart : AllPairs (λ a b. a ≢ b) list = λ i j d below within. not_below (get_or list i d) (get_or list j d) (lists.ascending i j d below within) in
    let there : All (Contains once) list = λ k d within.
    let edge = get_or list k d in
    let kept = (lists.exact edge).0 (Contains-get_or list k d within) in
    (each_once-same (entering edges oid) edge).1
    (Contains-filter (λ e. e.child.0 == oid.0) edges edge kept.0 (eq-eqb edge.child.0 oid.0 (ap (λ o. o.0) kept.1))) in
    let back : All (Contains list) once = λ k d within.
    let edge = get_or once k d in
    let kept = unfiltered (λ e. e.child.0 == oid.0) edges edge ((each_once-same (entering edges oid) edge).0 (Contains-get_or once k d within)) in
    let child : edge.child ≡ oid = (let is = eqb-true edge.child.0 oid.0 kept.1 in λ i. record { 0 = is i }) in
    (lists.exact edge).1 (kept.0, child, tt) in
    omega (arith, length-within list once apart there, length-within once list (each_once-apart (entering edges oid)) back)

-- they are no more than the list has
pub few_entering : (edges : List Edge) (oid : Oid) → reads_entering edges oid ≤ reads_in edges oid
unfolding entering
few_entering edges oid =
    let once = each_once (entering edges oid) in
    let there : All (Contains (entering edges oid)) once = λ k d within.
    (each_once-same (entering edges oid) (get_or once k d)).0 (Contains-get_or once k d within) in
    omega (arith, length-within once (entering edges oid) (each_once-apart (entering edges oid)) there)
