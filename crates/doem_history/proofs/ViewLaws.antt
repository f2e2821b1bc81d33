-- What is read of one moment of a history, and what differs between two.
use Rattle.std.proofs.Common.{◌≡◌, ◌≢◌, ◌↔◌, inl, ℕ, ◌+◌, ◌<◌, ◌≤◌, ◌==◌, true, List, AllPairs, Contains, Less, Equal, Some, IsPermutation, refl, sym, ap, ◌∙◌, subst, arith}
use Rattle.std.specs.List.{slice_get}
use Rattle.std.specs.Cmp.{IsTotalOrder}
use Rattle.std.specs.declared.cmp.Ordering.{Ordering}
use Rattle.std.proofs.lemmas.Bool.Decides.{nat_tests}
use Rattle.std.proofs.lemmas.List.FromFn.{get_or-map-range_with_len, length-map-range_with_len}
use Rattle.std.proofs.lemmas.List.Sorted.{Contains-permutation, IsPermutation-sym}
use Rattle.std.proofs.lemmas.Option.{slice_get-get_or}
use Rattle.lore_base.specs.Walks.{edge_cmp, out_of}
use Rattle.lore_base.specs.Databases.{IsLive, AreAscendingEdges}
use Rattle.lore_base.specs.Deltas.{ListsOnlyIn}
use Rattle.lore_base.proofs.MemberLaws.{Contains-filter, unfiltered}
use Rattle.lore_base.proofs.ListLaws.{AllPairs-unique}
use Rattle.index_traits.proofs.ObjectLaws.{same_oid, one_value_of}
use Rattle.index_traits.proofs.OutLaws.{ascend-out_of}
use Rattle.doem_history.specs.Types.{Oid, Edge, Value, Run}
use Rattle.doem_history.specs.Facts.{object_order}
use Rattle.doem_history.specs.inside.FactLaws.{edge_total, object_total}
use Rattle.doem_history.specs.Histories.{facts_at, ordered, KeptHistory, moment_at, moments_of}
use Rattle.doem_history.specs.inside.Kept.{Ascends, AreFacts}
use Rattle.doem_history.proofs.DeltaLaws.{objects_rise}
use Rattle.doem_history.proofs.KeptLaws.{distinct_held}
use Rattle.doem_history.proofs.OrderLaws.{never-both, ascend-ordered, from-ordered, in-ordered, ordered_is}

same_number : (a b : Oid) → a ≡ b → (a.0 == b.0) ≡ true
same_number a b same = let number : a.0 ≡ b.0 = ap (λ (o : Oid). o.0) same in grind (arith, nat_tests)

-- the moment stands at its place among the moments
pub moment_told : (h : KeptHistory) (moment : ℕ) → moment ≤ h.last → slice_get (moments_of h) moment ≡ Some (moment_at h moment)
moment_told h moment within =
    let long = length-map-range_with_len (moment_at h) 0 (h.last + 1) in
    slice_get-get_or (moments_of h) moment (moment_at h moment) (omega (arith, long, within))
    ∙ ap Some (get_or-map-range_with_len (moment_at h) 0 (h.last + 1) moment moment (moment_at h moment) (omega (arith, within)) (omega arith))

pub out_ascends : (oid : Oid) (edges : List Edge) → AreAscendingEdges (out_of oid (ordered edge_cmp edges))
out_ascends oid edges = ascend-out_of (ordered edge_cmp edges) oid (ascend-ordered edge_cmp edge_total edges)

-- the edges found of an object, in order, are those that leave it at the moment
pub out_told : (moments moment : ℕ) (runs : List (Run Edge)) (oid : Oid) (found sorted : List Edge) → AreFacts edge_cmp moments runs → moment < moments
    → ((edge : Edge) → Contains found edge ↔ (Contains (facts_at moment runs) edge × (edge.parent ≡ oid)))
    → AreAscendingEdges sorted → ((edge : Edge) → Contains sorted edge ↔ Contains found edge)
    → sorted ≡ out_of oid (ordered edge_cmp (facts_at moment runs))
out_told moments moment runs oid found sorted facts within exact ascend members =
    AllPairs-unique (λ a b. edge_cmp a b ≡ Less) (never-both edge_cmp edge_total) sorted (out_of oid (ordered edge_cmp (facts_at moment runs))) ascend (out_ascends oid (facts_at moment runs))
    (λ edge. (
      (λ at.
          let both = (exact edge).0 ((members edge).0 at) in
          Contains-filter (λ e. e.parent.0 == oid.0) (ordered edge_cmp (facts_at moment runs)) edge
          (in-ordered edge_cmp edge_total (facts_at moment runs) (facts.once moment within) edge both.0) (same_number edge.parent oid both.1)),
      (λ at.
          let passed = unfiltered (λ (e : Edge). e.parent.0 == oid.0) (ordered edge_cmp (facts_at moment runs)) edge at in
          (members edge).1 ((exact edge).1 (from-ordered edge_cmp edge_total (facts_at moment runs) edge passed.0, same_oid edge.parent oid passed.1))),
    ))

-- an object's value at the moment
pub value_told : (moments moment : ℕ) (runs : List (Run (Oid × Value))) (oid : Oid) (object : Oid × Value) → AreFacts object_order moments runs → moment < moments
    → Contains (facts_at moment runs) object × (object.0 ≡ oid) → Contains (ordered object_order (facts_at moment runs)) (oid, object.1)
value_told moments moment runs oid object facts within found =
    subst (λ (o : Oid). Contains (ordered object_order (facts_at moment runs)) (o, object.1)) found.1 (in-ordered object_order object_total (facts_at moment runs) (facts.once moment within) object found.0)

pub not_live : (moment : ℕ) (runs : List (Run (Oid × Value))) (oid : Oid) → ((object : Oid × Value) → Contains (facts_at moment runs) object → object.0 ≡ oid → ⊥)
    → IsLive (ordered object_order (facts_at moment runs)) oid → ⊥
not_live moment runs oid none live = none (oid, live.0) (from-ordered object_order object_total (facts_at moment runs) (oid, live.0) live.1) refl

-- an object has one value at a moment
pub one_value_at : (h : KeptHistory) (moment : ℕ) (oid : Oid) (v w : Value) → Contains (moment_at h moment).objects (oid, v) → Contains (moment_at h moment).objects (oid, w) → v ≡ w
one_value_at h moment oid v w at_v at_w =
    one_value_of (moment_at h moment).objects (objects_rise (moment_at h moment).objects (ascend-ordered object_order object_total (facts_at moment h.objects.runs))) oid v w at_v at_w

-- facts of a moment that were sorted
module _ {F : Type 0} (cmp : F → F → Ordering) (total : IsTotalOrder cmp) (moments moment : ℕ) (runs : List (Run F)) (found sorted : List F) (facts : AreFacts cmp moments runs)
    (within : moment < moments) (is : found ≡ facts_at moment runs) (moved : IsPermutation found sorted)
    (ascends : AllPairs (λ a b. a ≢ b) found → ((a b : F) → Contains found a → Contains found b → cmp a b ≡ Equal → a ≡ b) → Ascends cmp sorted) where
  pub facts_ascend : Ascends cmp sorted
  facts_ascend = ascends
      (subst (λ (l : List F). AllPairs (λ a b. a ≢ b) l) (sym is) (distinct_held moment runs (λ i j d lt len. inl (facts.kept.apart i j d lt len))))
      (λ a b at_a at_b same. facts.once moment within a b (subst (λ (l : List F). Contains l a) is at_a) (subst (λ (l : List F). Contains l b) is at_b) same)

  pub facts_told : sorted ≡ ordered cmp (facts_at moment runs)
  facts_told = sym (ordered_is cmp total (facts_at moment runs) sorted facts_ascend (λ fact. (
    (λ at. Contains-permutation found sorted fact moved (subst (λ (l : List F). Contains l fact) (sym is) at)),
    (λ at. subst (λ (l : List F). Contains l fact) is (Contains-permutation sorted found fact (IsPermutation-sym found sorted moved) at)),
  )))

-- what stands at one moment only, by the runs and by the moments
pub only_told : {F : Type 0} (cmp : F → F → Ordering) (total : IsTotalOrder cmp) (moments i j : ℕ) (runs : List (Run F)) (found : List F) → AreFacts cmp moments runs → i < moments → j < moments
    → ListsOnlyIn found (facts_at i runs) (facts_at j runs) → ListsOnlyIn found (ordered cmp (facts_at i runs)) (ordered cmp (facts_at j runs))
only_told cmp total moments i j runs found facts in_i in_j exact fact = (
  (λ at. (let both = (exact fact).0 at in
      (in-ordered cmp total (facts_at i runs) (facts.once i in_i) fact both.0, (λ there. both.1 (from-ordered cmp total (facts_at j runs) fact there))))),
  (λ both. (exact fact).1 (from-ordered cmp total (facts_at i runs) fact both.0, (λ there. both.1 (in-ordered cmp total (facts_at j runs) (facts.once j in_j) fact there)))),
)
