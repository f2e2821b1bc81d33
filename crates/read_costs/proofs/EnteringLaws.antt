-- The edges that enter objects: how many they are, and those of one object more.
use Rattle.std.proofs.Common.{◌≡◌, ◌≢◌, ℕ, ◌+◌, ◌-◌, ◌<◌, ◌==◌, inl, inr, Less, Equal, None, List, [], ◌∷◌, ◌++◌, length, take, get_or, AllPairs, Contains, sym, ap, ◌∙◌, subst, arith, eq-eqb, length-append}
use Rattle.std.specs.List.{sum_by}
use Rattle.std.specs.Ordering.{ordering_index}
use Rattle.std.proofs.lemmas.Bool.Decides.{nat_tests}
use Rattle.std.proofs.lemmas.List.{take_more}
use Rattle.std.proofs.lemmas.List.Elements.{Contains-append_left, Contains-append_right, Contains-append_cases, Contains-push, Contains-push_cases}
use Rattle.std.proofs.lemmas.List.Kept.{AllPairs-filter}
use Rattle.std.proofs.lemmas.List.Sums.{sum_by_more}
use Rattle.lore_base.specs.Lists.{ExtendsBy}
use Rattle.lore_base.specs.Walks.{edge_cmp, entering_cmp, ListsEntering}
use Rattle.lore_base.specs.Databases.{AreAscendingEdges}
use Rattle.lore_base.proofs.MemberLaws.{Contains-none, Contains-same, Contains-filter, unfiltered}
use Rattle.list_laws.proofs.SumLaws.{distinct_as_long}
use Rattle.index_traits.proofs.ObjectLaws.{same_oid}
use Rattle.read_costs.specs.Types.{Oid, Edge}
use Rattle.read_costs.specs.ReadCosts.{in_of, in_reads}
use Rattle.read_costs.specs.Entering.{AreEntering}

cmp_self : (a : Edge) → edge_cmp a a ≡ Equal
cmp_self a = grind (arith, nat_tests)

enter_self : (a : Edge) → entering_cmp a a ≡ Equal
enter_self a = grind (arith, nat_tests)

-- edges in order are apart
edges_apart : (edges : List Edge) → AreAscendingEdges edges → AllPairs (λ a b. a ≢ b) edges
edges_apart edges ascend i j d below within = λ same.
    let less = ascend i j d below within in
    let equal = ap (λ (e : Edge). edge_cmp e (get_or edges j d)) same ∙ cmp_self (get_or edges j d) in
    omega (arith, ap ordering_index (sym less ∙ equal))

entering_apart : (list : List Edge) → AllPairs (λ a b. entering_cmp a b ≡ Less) list → AllPairs (λ a b. a ≢ b) list
entering_apart list ascend i j d below within = λ same.
    let less = ascend i j d below within in
    let equal = ap (λ (e : Edge). entering_cmp e (get_or list j d)) same ∙ enter_self (get_or list j d) in
    omega (arith, ap ordering_index (sym less ∙ equal))

-- those that enter an object are as many as those of the graph that do
entering_count : (edges : List Edge) (oid : Oid) (list : List Edge) → AreAscendingEdges edges → ListsEntering edges oid None list
    → length list ≡ length (in_of oid edges)
entering_count edges oid list ascend lists =
    let enters = λ (e : Edge). e.child.0 == oid.0 in
    let apart : AllPairs (λ a b. a ≢ b) (in_of oid edges) = AllPairs-filter (λ (a b : Edge). a ≢ b) enters edges (edges_apart edges ascend) in
    distinct_as_long list (in_of oid edges) (entering_apart list lists.ascending) apart (λ edge. (
      λ at. (
          let h = (lists.exact edge).0 at in
          Contains-filter enters edges edge h.0 (eq-eqb edge.child.0 oid.0 (ap (λ (o : Oid). o.0) h.1))),
      λ at. (
          let h = unfiltered enters edges edge at in
          (lists.exact edge).1 (h.0, same_oid edge.child oid h.1, tt)),
    ))

pub entering-none : (edges : List Edge) → AreEntering edges [] []
entering-none edges = record {
  exact = λ edge. (λ at. absurd (Contains-none edge at), λ h. absurd (Contains-none edge.child h.1));
}

entering-front : (edges old new : List Edge) (front : List Oid) (next : Oid) → AreEntering edges front old
    → ExtendsBy (ListsEntering edges next None) old new → AreEntering edges (front ++ next ∷ []) new
entering-front edges old new front next sofar longer =
    let lists : ListsEntering edges next None longer.0 = longer.2 in record {
      exact = λ edge. (
        λ at. elim (Contains-append_cases old longer.0 edge (subst (λ (l : List Edge). Contains l edge) longer.1 at)) [
          | inl early ↦
              let h = (sofar.exact edge).0 early in
              (h.0, Contains-append_left front (next ∷ []) edge.child h.1)
          | inr late ↦
              let h = (lists.exact edge).0 late in
              (h.0, Contains-same (front ++ next ∷ []) next edge.child (sym h.1) (Contains-push front next))
        ],
        λ h. subst (λ (l : List Edge). Contains l edge) (sym longer.1) (elim (Contains-push_cases front next edge.child h.1) [
          | inl early ↦ Contains-append_left old longer.0 edge ((sofar.exact edge).1 (h.0, early))
          | inr same ↦ Contains-append_right old longer.0 edge ((lists.exact edge).1 (h.0, sym same, tt))
        ]),
      );
    }

module _ (edges old new : List Edge) (oids : List Oid) (place : ℕ) (d : Oid) (lt : place < length oids)
    (longer : ExtendsBy (ListsEntering edges (get_or oids place d) None) old new) where
  pub entering-more : AreEntering edges (take place oids) old → AreEntering edges (take (place + 1) oids) new
  entering-more sofar =
      rw (take_more oids place d lt) (entering-front edges old new (take place oids) (get_or oids place d) sofar longer)

  -- and their cost
  pub entering_steps : (before steps now : ℕ) → AreAscendingEdges edges → now ≡ steps + 1 + (length new - length old)
      → steps ≡ before + sum_by (in_reads edges) (take place oids) → now ≡ before + sum_by (in_reads edges) (take (place + 1) oids)
  entering_steps before steps now ascend step sofar =
      let count = entering_count edges (get_or oids place d) longer.0 ascend longer.2 in
      let whole : length new ≡ length old + length longer.0 = ap length longer.1 ∙ length-append old longer.0 in
      let more = sum_by_more (in_reads edges) oids place d lt in
      omega (arith, step, sofar, count, whole, more)
