-- The objects of a condition, found once: it holds of just the rows that have one of them in a slot.
use Rattle.std.proofs.Common.{◌≡◌, ◌≢◌, ◌↔◌, ℕ, List, [], ◌∷◌, ◌++◌, Option, None, Some, Result, IfOk, IfSome, refl, sym, subst}
use Rattle.std.specs.List.{AllPairs, Contains, slice_get}
use Rattle.std.proofs.lemmas.Option.{same_Some}
use Rattle.lore_base.specs.Paths.{PathTree, seq, step, trees_of, Reaches}
use Rattle.lore_base.specs.Comparisons.{Compares}
use Rattle.lore_base.specs.TargetSets.{ListsInOrder}
use Rattle.lore_base.proofs.WalkLaws.{Walk-within}
use Rattle.index_traits.specs.Entries.{AreValueEntries, entry_of}
use Rattle.lorel_bound.specs.Bound.{BoundPathTree}
use Rattle.lorel_bound.specs.Conditions.{CondOf, constant, at, exists, compare, same}
use Rattle.lorel_bound.specs.SlotRows.{BoundStartsAt}
use Rattle.lorel_bound.specs.Plans.{IsCandidate}
use Rattle.product_walk.specs.ProductWalks.{ReachesInto}
use Rattle.plan_laws.specs.Steps.{StepsOver, steps_over}
use Rattle.plan_laws.proofs.DescribeLawsProbe.{last_edge, candidate}
use Rattle.index_eval.specs.Types.{Oid, Label, Edge, Value, Op, ValueEntry, BoundStart, Plain}
use Rattle.index_eval.specs.Types.bound_starts
use Rattle.index_eval.specs.Indexes.{AreIndexes}
use Rattle.index_eval.specs.declared.listing.Listed.{Listed}
use Rattle.index_eval.specs.inside.Listing.{AreObjectsOf, AreEndsOf}
use Rattle.index_eval.proofs.ClueLaws.{reached_back}

-- an object that is found for a value has one that compares so
candidate_has : (objects : List (Oid × Value)) (edges : List Edge) (entries : List ValueEntry) → AreValueEntries objects edges entries
    → (label : Option Label) (op : Op) (value : Value) (oid : Oid) → IsCandidate entries label op value oid
    → (own : Value) × Contains objects (oid, own) × Compares own op value
candidate_has objects edges entries are None op value oid found = absurd found
candidate_has objects edges entries are (Some label) op value oid found =
    (found.0, ((are.exact (entry_of label found.0 oid)).0 found.1).live, found.2)

reached_on : (labels : List (List ℕ)) (edges links : List Edge) → ((edge : Edge) → Contains links edge ↔ Contains edges edge) → (rest : PathTree)
    (start oid : Oid) → Reaches labels links rest start oid → Reaches labels edges rest start oid
reached_on labels edges links links_are rest start oid reached =
    (reached.0, reached.1, Walk-within links edges (λ edge. (links_are edge).0) start reached.0 oid reached.2)

-- a path leads from the object to one whose value compares so
abbrev LeadsTo : List (List ℕ) → List Edge → List (Oid × Value) → PathTree → Op → Value → Oid → Type 0
LeadsTo labels edges objects rest op value from =
    (own : Value) × (to : Oid) × Reaches labels edges rest from to × Contains objects (to, own) × Compares own op value

leads_back : (labels : List (List ℕ)) (edges : List Edge) (objects : List (Oid × Value)) (links : List Edge) (entries : List ValueEntry)
    → AllPairs (λ a b. a ≢ b) labels → AreIndexes objects edges links entries → (rest : PathTree) (op : Op) (value : Value) (ends oids : List Oid)
    → AreEndsOf labels entries rest op value ends → ListsInOrder (ReachesInto labels links rest ends) oids → (from : Oid)
    → LeadsTo labels edges objects rest op value from ↔ Contains oids from
leads_back labels edges objects links entries apart indexes rest op value ends oids are lists from = (
  λ h.
      let over : StepsOver = steps_over labels edges links entries (Reaches labels edges) (λ slots. Unit {0}) in
      let whole : Reaches labels edges (seq (trees_of (are.ends_in.0 ++ step (Plain are.text) ∷ []))) from h.1 =
      subst (λ (p : PathTree). Reaches labels edges p from h.1) are.ends_in.1 h.2 in
      let last = last_edge labels edges are.ends_in.0 are.text from h.1 whole in
      let found = candidate over objects apart indexes.entries_are are.label are.text op value h.0 h.1 are.labelled are.probed h.4 h.3
      last.0 last.2 last.1 last.3 in
      (lists.exact from).1 (h.1, (are.lists.exact h.1).1 found, reached_back labels edges links indexes.links_are rest from h.1 h.2),
  λ there.
      let into = (lists.exact from).0 there in
      let own = candidate_has objects edges entries indexes.entries_are are.label op value into.0 ((are.lists.exact into.0).0 into.1) in
      (own.0, into.0, reached_on labels edges links indexes.links_are rest from into.0 into.2, own.1, own.2),
)

-- of a comparison of what a path reaches with a value
pub compared_objects : (labels : List (List ℕ)) (edges : List Edge) (objects : List (Oid × Value)) (links : List Edge) (entries : List ValueEntry)
    → AllPairs (λ a b. a ≢ b) labels → AreIndexes objects edges links entries → (slot : ℕ) (path : BoundPathTree) (op : Op) (value : Value)
    (ends oids : List Oid) → path.start ≡ bound_starts.Slot slot → AreEndsOf labels entries path.rest op value ends
    → ListsInOrder (ReachesInto labels links path.rest ends) oids
    → AreObjectsOf labels edges objects (compare (at path) op (constant value)) (record { slot = slot; oids = oids })
compared_objects labels edges objects links entries apart indexes slot path op value ends oids is are lists = record {
  ascend = lists.ascending;
  exact = λ row. (
    λ holds.
        let sought = holds.2 in
        let reached = sought.1 in
        let start : slice_get row slot ≡ Some reached.0 = subst (λ (s : BoundStart). BoundStartsAt row [] s reached.0) is reached.1 in
        let compares : Compares holds.0 op value = subst (λ (v : Value). Compares holds.0 op v) holds.3 holds.4 in (
          reached.0,
          start,
          (leads_back labels edges objects links entries apart indexes path.rest op value ends oids are lists reached.0).0
              (holds.0, sought.0, reached.2, sought.2, compares),
        ),
    λ has.
        let found = (leads_back labels edges objects links entries apart indexes path.rest op value ends oids are lists has.0).1 has.2 in
        let start = subst (λ (s : BoundStart). BoundStartsAt row [] s has.0) (sym is) has.1 in
        (found.0, value, (found.1, (has.0, start, found.2), found.3), refl, found.4),
  );
}

-- of such a comparison that is asked of some object that a path reaches
pub through_objects : (labels : List (List ℕ)) (edges : List Edge) (objects : List (Oid × Value)) (links : List Edge) (entries : List ValueEntry)
    → AllPairs (λ a b. a ≢ b) labels → AreIndexes objects edges links entries → (slot : ℕ) (path inner : BoundPathTree) (op : Op) (value : Value)
    (ends between oids : List Oid) → path.start ≡ bound_starts.Slot slot → inner.start ≡ bound_starts.Quantified 0
    → AreEndsOf labels entries inner.rest op value ends → ListsInOrder (ReachesInto labels links inner.rest ends) between
    → ListsInOrder (ReachesInto labels links path.rest between) oids
    → AreObjectsOf labels edges objects (exists path (compare (at inner) op (constant value))) (record { slot = slot; oids = oids })
through_objects labels edges objects links entries apart indexes slot path inner op value ends between oids is inside are within lists = record {
  ascend = lists.ascending;
  exact = λ row. (
    λ holds.
        let reached = holds.1 in
        let compared = holds.2 in
        let sought = compared.2 in
        let met = sought.1 in
        let start : slice_get row slot ≡ Some reached.0 = subst (λ (s : BoundStart). BoundStartsAt row [] s reached.0) is reached.1 in
        let from : holds.0 ≡ met.0 = same_Some holds.0 met.0 (subst (λ (s : BoundStart). BoundStartsAt row (holds.0 ∷ []) s met.0) inside met.1) in
        let compares : Compares compared.0 op value = subst (λ (v : Value). Compares compared.0 op v) compared.3 compared.4 in
        let there = (leads_back labels edges objects links entries apart indexes inner.rest op value ends between are within met.0).0
        (compared.0, sought.0, met.2, sought.2, compares) in
        let own : Contains between holds.0 = subst (λ (o : Oid). Contains between o) (sym from) there in (
          reached.0,
          start,
          (lists.exact reached.0).1
              (holds.0, own, reached_back labels edges links indexes.links_are path.rest reached.0 holds.0 reached.2),
        ),
    λ has.
        let into = (lists.exact has.0).0 has.2 in
        let found = (leads_back labels edges objects links entries apart indexes inner.rest op value ends between are within into.0).1 into.1 in
        let start = subst (λ (s : BoundStart). BoundStartsAt row [] s has.0) (sym is) has.1 in
        let inner_start = subst (λ (s : BoundStart). BoundStartsAt row (into.0 ∷ []) s into.0) (sym inside) refl in
        let walked = reached_on labels edges links indexes.links_are path.rest has.0 into.0 into.2 in
        (into.0, (has.0, start, walked), (found.0, value, (found.1, (into.0, inner_start, found.2), found.3), refl, found.4)),
  );
}

-- of two paths that are to reach a same object, of which the other starts at a name
pub met_objects : (labels : List (List ℕ)) (edges : List Edge) (objects : List (Oid × Value)) (links : List Edge)
    → ((edge : Edge) → Contains links edge ↔ Contains edges edge) → (slot : ℕ) (named : Oid) (path other : BoundPathTree) (ends oids : List Oid)
    → path.start ≡ bound_starts.Slot slot → other.start ≡ bound_starts.Named named → ListsInOrder (Reaches labels edges other.rest named) ends
    → ListsInOrder (ReachesInto labels links path.rest ends) oids
    → AreObjectsOf labels edges objects (same path other) (record { slot = slot; oids = oids })
met_objects labels edges objects links links_are slot named path other ends oids is there reaches lists = record {
  ascend = lists.ascending;
  exact = λ row. (
    λ holds.
        let reached = holds.1 in
        let met = holds.2 in
        let start : slice_get row slot ≡ Some reached.0 = subst (λ (s : BoundStart). BoundStartsAt row [] s reached.0) is reached.1 in
        let from : named ≡ met.0 = subst (λ (s : BoundStart). BoundStartsAt row [] s met.0) there met.1 in
        let end = (reaches.exact holds.0).1 (subst (λ (o : Oid). Reaches labels edges other.rest o holds.0) (sym from) met.2) in
        (reached.0, start, (lists.exact reached.0).1 (holds.0, end, reached_back labels edges links links_are path.rest reached.0 holds.0 reached.2)),
    λ has.
        let into = (lists.exact has.0).0 has.2 in
        let start = subst (λ (s : BoundStart). BoundStartsAt row [] s has.0) (sym is) has.1 in
        let other_start = subst (λ (s : BoundStart). BoundStartsAt row [] s named) (sym there) refl in (
          into.0,
          (has.0, start, reached_on labels edges links links_are path.rest has.0 into.0 into.2),
          (named, other_start, (reaches.exact into.0).0 into.1),
        ),
  );
}

-- the other way round
pub met_turned : (labels : List (List ℕ)) (edges : List Edge) (objects : List (Oid × Value)) (path other : BoundPathTree) (listed : Listed)
    → AreObjectsOf labels edges objects (same path other) listed → AreObjectsOf labels edges objects (same other path) listed
met_turned labels edges objects path other listed are = record {
  ascend = are.ascend;
  exact = λ row. (
    λ holds. (are.exact row).0 (holds.0, holds.2, holds.1),
    λ has. let holds = (are.exact row).1 has in (holds.0, holds.2, holds.1),
  );
}

-- and so where some were found
pub found_of : {E : Type 0} (labels : List (List ℕ)) (edges : List Edge) (objects : List (Oid × Value)) (condition other : CondOf BoundPathTree)
    (result : Result (Option Listed) E) → condition ≡ other
    → IfOk result (λ found. IfSome found (AreObjectsOf labels edges objects other))
    → IfOk result (λ found. IfSome found (AreObjectsOf labels edges objects condition))
found_of labels edges objects condition other result is found =
    subst (λ (c : CondOf BoundPathTree). IfOk result (λ found. IfSome found (AreObjectsOf labels edges objects c))) (sym is) found
