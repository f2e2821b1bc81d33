-- A number that is given to one object: that the change fits, and what it reads.
use Rattle.std.proofs.Common.{◌≡◌, ◌≢◌, ◌⊎◌, inl, inr, ℕ, ◌+◌, ◌*◌, ◌<◌, ◌≤◌, ◌==◌, ◌↔◌, Less, Equal, List, [], ◌∷◌, ◌++◌, length, get_or, Contains, None, All, AllPairs, refl, sym, ap, subst, ◌∙◌, arith, eq-eqb, true≢false}
use Rattle.std.specs.Prelude.{ℤ, FitsSigned, Result, Ok, Err, OnOk, IsOk}
use Rattle.std.specs.Int.{w64}
use Rattle.std.specs.List.Sorted.{IsStrictlySortedBy}
use Rattle.std.proofs.lemmas.List.Elements.{All-nil, All-cons, All-contains}
use Rattle.std.specs.Ordering.{ordering_index}
use Rattle.std.proofs.lemmas.Bool.Decides.{nat_tests}
use Rattle.std.proofs.lemmas.List.Kept.{AllPairs-cons, AllPairs-filter}
use Rattle.lore_base.specs.declared.edges.Oid.{Oid}
use Rattle.lore_base.specs.declared.edges.Edge.{Edge}
use Rattle.lore_base.specs.declared.values.Value.{Value}
use Rattle.lore_base.specs.declared.values.Value.TheVariants.{Whole, Complex}
use Rattle.lore_base.specs.declared.change_set.Changes.{Changes}
use Rattle.lore_base.specs.Lists.{ExtendsBy}
use Rattle.lore_base.specs.Walks.{out_of, edge_cmp, entering_cmp, ListsEntering}
use Rattle.lore_base.specs.TargetSets.{IsLedTo}
use Rattle.lore_base.specs.Databases.{OemGraph, Database, AreAscendingEdges, IsLive, IsSized, IsLinked, IsReached, IsValid}
use Rattle.lore_base.specs.Names.{IsName, IsLabel, IsNameTable}
use Rattle.lore_base.specs.ChangeSets.{HasChildren, Fits, IsBound, IsAtHand, IsComplexThen, NamesThen, ObjectsThen, IsRenamed, IsReachedThen, AreEdgesThen, IsGraphAfter}
use Rattle.lore_base.proofs.MemberLaws.{Contains-none, Contains-head, Contains-cases, Contains-same, Contains-filter, unfiltered}
use Rattle.list_laws.proofs.PairLaws.{AllPairs-nil}
use Rattle.list_laws.proofs.SumLaws.{distinct_as_long}
use Rattle.index_traits.specs.Entries.{AreLinks}
use Rattle.index_traits.proofs.ObjectLaws.{same_oid}
use Rattle.oem_changes.proofs.DeterminedLaws.{one_between, one_after}
use Rattle.read_costs.specs.ReadCosts.{in_of, link_reads}
use Rattle.read_costs.specs.Concerned.{IsCut, IsListed, IsDirty, IsNear, IsConcerned, IsTouched}
use Rattle.read_costs.specs.Work.{work_of}
use Rattle.read_costs.proofs.WorkLaws.{work_is_within_all}
use Rattle.lore_store.specs.Reads.{ReadsWithinWork}
use Rattle.session_tests.specs.Given.{giving}

-- what holds of each value holds where there is one
pub where_ok : {T E : Type 0} (r : Result T E) (P : Type 0) → OnOk r P → IsOk r → P
where_ok (Ok value) P holds ok = holds
where_ok (Err error) P holds ok = absurd (true≢false (sym ok))

cmp_self : (a : Edge) → edge_cmp a a ≡ Equal
cmp_self a = grind (arith, nat_tests)

enter_self : (a : Edge) → entering_cmp a a ≡ Equal
enter_self a = grind (arith, nat_tests)

-- edges in order are apart, in both orders
edges_apart : (edges : List Edge) → AreAscendingEdges edges → AllPairs (λ a b. a ≢ b) edges
edges_apart edges ascend i j d below within = λ same.
    let less = ascend i j d below within in
    let equal = ap (λ (e : Edge). edge_cmp e (get_or edges j d)) same ∙ cmp_self (get_or edges j d) in
    omega (arith, ap ordering_index (sym less ∙ equal))

entering_apart : (list : List Edge) → AllPairs (λ a b. entering_cmp a b ≡ Less) list → AllPairs (λ a b. a ≢ b) list
entering_apart list ascend i j d below within = λ same.
    let less = ascend i j d below within in
    let equal = ap (λ (e : Edge). entering_cmp e (get_or list j d)) same ∙ enter_self (get_or list j d) in
    omega (arith, ap ordering_index (sym less ∙ equal))

-- those that enter an object are as many as those of the graph that do
entering_count : (edges : List Edge) (oid : Oid) (list : List Edge) → AreAscendingEdges edges → ListsEntering edges oid None list
    → length list ≡ length (in_of oid edges)
entering_count edges oid list ascend lists =
    let enters = λ (e : Edge). e.child.0 == oid.0 in
    let apart : AllPairs (λ a b. a ≢ b) (in_of oid edges) = AllPairs-filter (λ (a b : Edge). a ≢ b) enters edges (edges_apart edges ascend) in
    distinct_as_long list (in_of oid edges) (entering_apart list lists.ascending) apart (λ edge. (
      λ at. (
          let h = (lists.exact edge).0 at in
          Contains-filter enters edges edge h.0 (eq-eqb edge.child.0 oid.0 (ap (λ (o : Oid). o.0) h.1))),
      λ at. (
          let h = unfiltered enters edges edge at in
          (lists.exact edge).1 (h.0, same_oid edge.child oid h.1, tt)),
    ))

-- the edges that an index of links gives are as many as those of the graph that enter the object
pub entering_links : (edges links : List Edge) → AreAscendingEdges edges → AreLinks edges links → (oid : Oid) (list : List Edge)
    → ListsEntering links oid None list → length list ≡ length (in_of oid edges)
entering_links edges links ascend are oid list lists = entering_count edges oid list ascend (record {
  ascending = lists.ascending;
  exact = λ edge. (
    λ at. let found = (lists.exact edge).0 at in ((are.exact edge).0 found.0, found.1, found.2),
    λ found. (lists.exact edge).1 ((are.exact edge).1 found.0, found.1, found.2),
  );
})

-- the same of a list that they were appended to
pub entering_pushed : (edges links : List Edge) → AreAscendingEdges edges → AreLinks edges links → (oid : Oid) (old new : List Edge)
    → old ≡ [] → ExtendsBy (ListsEntering links oid None) old new → length new ≡ length (in_of oid edges)
entering_pushed edges links ascend are oid old new none extends =
    let same : new ≡ extends.0 = extends.1 ∙ ap (λ (l : List Edge). l ++ extends.0) none in
    ap length same ∙ entering_links edges links ascend are oid extends.0 extends.2

no_names : IsNameTable []
unfolding IsStrictlySortedBy
no_names = tt

module _ (db : Database) (valid : IsValid db) (oid : Oid) (number : ℤ) where
  abbrev changes : Changes
  changes = giving oid number

  only_one : (o : Oid) (value : Value) → Contains changes.values (o, value) → oid ≡ o
  only_one o value at = elim (Contains-cases (oid, Whole number) [] (o, value) at) [
    | inl same ↦ ap (λ (object : Oid × Value). object.0) same
    | inr none ↦ absurd (Contains-none (o, value) none)
  ]

  pub given_fits : FitsSigned w64 number → IsLive db.graph.objects oid → (HasChildren db.graph.edges oid → ⊥) → Fits db changes
  given_fits sized live childless = record {
    graph = record {
      numbered = tt;
      room = omega (arith, valid.restorable.rooted.well_formed.ordered.next_numbered.1);
      made_sized = All-nil (λ (object : Oid × Value). IsSized object.1);
      values_sized = All-cons (λ (object : Oid × Value). IsSized object.1) (oid, Whole number) [] sized (All-nil (λ (object : Oid × Value). IsSized object.1));
      values_once = AllPairs-cons (λ (a b : Oid × Value). a.0 ≢ b.0) (oid, Whole number) [] (All-nil (λ (b : Oid × Value). oid ≢ b.0)) (AllPairs-nil (λ (a b : Oid × Value). a.0 ≢ b.0));
      values_live = All-cons (λ (object : Oid × Value). IsLive db.graph.objects object.0) (oid, Whole number) [] live (All-nil (λ (object : Oid × Value). IsLive db.graph.objects object.0));
      values_childless = All-cons (λ (object : Oid × Value). (object.1 ≡ Complex) ⊎ (¬ HasChildren db.graph.edges object.0)) (oid, Whole number) [] (inr childless)
          (All-nil (λ (object : Oid × Value). (object.1 ≡ Complex) ⊎ (¬ HasChildren db.graph.edges object.0)));
      named_ascend = no_names;
      named = All-nil (λ (entry : List ℕ × Oid). IsName entry.0 × IsAtHand db.graph changes entry.1);
      unnamed = All-nil (λ (name : List ℕ). IsBound db.graph.names name × (¬ IsBound [] name));
      added = All-nil (λ (edge : Edge). IsComplexThen db.graph.objects changes edge.parent × IsAtHand db.graph changes edge.child);
      removed = All-nil (λ (edge : Edge). IsAtHand db.graph changes edge.parent × IsAtHand db.graph changes edge.child);
      apart = All-nil (λ (edge : Edge). ¬ Contains [] edge);
    };
    labels_new = All-nil (λ (text : List ℕ). ¬ Contains db.labels text);
    labels_distinct = AllPairs-nil (λ (a b : List ℕ). a ≢ b);
    labels_formed = All-nil IsLabel;
    few_labels = omega (arith, valid.restorable.few_labels);
    added_labelled = All-nil (λ (edge : Edge). edge.label.0 < length (db.labels ++ []));
    removed_labelled = All-nil (λ (edge : Edge). edge.label.0 < length (db.labels ++ []));
  }

  -- no name is renamed, and no edge listed
  not_renamed : (name : List ℕ) → IsRenamed changes name → ⊥
  not_renamed name (inl bound) = Contains-none (name, bound.0) bound.1
  not_renamed name (inr unnamed) = Contains-none name unnamed

  not_listed : (edge : Edge) → IsListed changes edge → ⊥
  not_listed edge (inl added) = Contains-none edge added
  not_listed edge (inr removed) = Contains-none edge removed

  not_dirty : (o : Oid) → IsDirty changes o → ⊥
  not_dirty o dirty = not_listed dirty.0 dirty.1

  -- so names and edges stay
  same_edges : AreEdgesThen db.graph.edges changes db.graph.edges
  same_edges = record {
    ascend = valid.restorable.rooted.well_formed.ordered.edges_ascend;
    exact = λ edge. (
      λ at. inr (at, Contains-none edge),
      λ left. elim left [ inl added ↦ absurd (Contains-none edge added) | inr kept ↦ kept.0 ],
    );
  }

  same_names : (entry : List ℕ × Oid) → Contains db.graph.names entry ↔ NamesThen db.graph.names changes entry
  same_names entry = (
    λ at. inr (at, not_renamed entry.0),
    λ left. elim left [ inl named ↦ absurd (Contains-none entry named) | inr kept ↦ kept.0 ],
  )

  live_reached : (o : Oid) → IsLive db.graph.objects o → IsReachedThen db.graph.names changes db.graph.edges o
  live_reached o live =
      let reached = All-contains (λ (object : Oid × Value). IsReached db.graph.names db.graph.edges object.0) db.graph.objects (o, live.0) valid.restorable.rooted.reached live.1 in
      record {
        name = reached.name;
        start = reached.start;
        word = reached.word;
        named = inr (reached.named, not_renamed reached.name);
        walked = reached.walked;
      }

  parent_reached : (edge : Edge) → Contains db.graph.edges edge → IsReachedThen db.graph.names changes db.graph.edges edge.parent
  parent_reached edge at =
      live_reached edge.parent (_, (All-contains (IsLinked db.graph.objects) db.graph.edges edge valid.restorable.rooted.well_formed.edges_linked at).parent)

  module _ (after : OemGraph) (leads : IsGraphAfter db.graph changes after) where
    between_is : leads.between ≡ db.graph.edges
    between_is = one_between db.graph.edges changes leads.between db.graph.edges leads.linked same_edges

    nothing_linked : (after.names ≡ db.graph.names) × (after.edges ≡ db.graph.edges)
    nothing_linked =
        let kept : OemGraph = record { names = db.graph.names; objects = after.objects; edges = db.graph.edges; next = after.next } in
        let same = one_after db.graph changes after kept leads (record {
          between = db.graph.edges;
          linked = same_edges;
          names_ascend = valid.restorable.rooted.well_formed.ordered.names_ascend;
          names = same_names;
          objects_ascend = leads.objects_ascend;
          objects = λ object. subst (λ (l : List Edge). Contains after.objects object ↔ (ObjectsThen db.graph.objects changes object × IsReachedThen db.graph.names changes l object.0)) between_is (leads.objects object);
          edges_ascend = valid.restorable.rooted.well_formed.ordered.edges_ascend;
          edges = λ edge. (λ at. (at, parent_reached edge at), λ both. both.0);
          next = leads.next;
        }) in (
          ap (λ (g : OemGraph). g.names) same,
          ap (λ (g : OemGraph). g.edges) same,
        )

    -- no target set is touched
    untouched : (set : List Oid) → IsTouched db.graph changes after set → ⊥
    untouched set (led, inl new) =
        new
        (subst (λ (names : List (List ℕ × Oid)). IsLedTo names db.graph.edges set) nothing_linked.0
        (subst (λ (edges : List Edge). IsLedTo after.names edges set) nothing_linked.1 led))
    untouched set (led, inr member) = not_dirty member.0 member.2

    -- and no object is concerned but the one
    uncut : (start : Oid) → IsCut db.graph changes leads.between start → ⊥
    uncut start (inl child) = child.1.1 (subst (λ (l : List Edge). Contains l child.0) (sym between_is) child.1.0)
    uncut start (inr named) = not_renamed named.0 named.2

    near_one : (o : Oid) → IsNear changes o → oid ≡ o
    near_one o (inl child) = absurd (not_listed child.0 child.1)
    near_one o (inr (inl made)) = absurd (Contains-none (o, made.0) made.1)
    near_one o (inr (inr given)) = only_one o given.0 given.1

    concerned_one : (o : Oid) → IsConcerned db.graph changes leads.between o → Contains (oid ∷ []) o
    concerned_one o (inl below) = absurd (uncut below.0 below.2)
    concerned_one o (inr near) = Contains-same (oid ∷ []) oid o (near_one o near) (Contains-head oid [])

  none_leaves : (HasChildren db.graph.edges oid → ⊥) → (list : List Edge) → list ≡ out_of oid db.graph.edges → length list ≡ 0
  none_leaves childless [] same = refl
  none_leaves childless (edge ∷ rest) same =
      let at = unfiltered (λ (e : Edge). e.parent.0 == oid.0) db.graph.edges edge (subst (λ (l : List Edge). Contains l edge) same (Contains-head edge rest)) in
      absurd (childless (edge, at.0, same_oid edge.parent oid at.1))

  pub given_reads : (HasChildren db.graph.edges oid → ⊥) → length (in_of oid db.graph.edges) ≤ 1 → (old now : ℕ)
      → ReadsWithinWork db.graph changes old now → now ≤ old + 8
  given_reads childless once old now reads =
      let after = reads.0 in
      let leads = reads.1 in
      let within : now ≤ old + 4 * work_of leads.between [] (oid ∷ []) =
      work_is_within_all 4 db.graph changes leads.between after old now reads.2 [] (λ set touched. absurd (untouched after leads set touched))
      (oid ∷ []) (concerned_one after leads) in
      let out : length (out_of oid db.graph.edges) ≡ 0 = none_leaves childless (out_of oid db.graph.edges) refl in
      let cost : link_reads db.graph.edges oid ≤ 2 = omega (arith, out, once) in
      let same : link_reads leads.between oid ≤ 2 = subst (λ (l : List Edge). link_reads l oid ≤ 2) (sym (between_is after leads)) cost in
      omega (arith, within, same)
