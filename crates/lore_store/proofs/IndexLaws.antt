-- What the indexes of a graph hold, before and after a prepared change.
use Rattle.std.proofs.Common.{◌≡◌, ◌≢◌, ℕ, ◌≤◌, ◌⊎◌, ◌↔◌, List, [], ◌∷◌, length, map, inl, inr, refl, ap, sym, subst, ◌∙◌, arith, Less}
use Rattle.std.specs.List.{All, AllPairs, Contains}
use Rattle.std.proofs.lemmas.Bool.Decides.{nat_tests}
use Rattle.std.proofs.lemmas.List.{length-map}
use Rattle.std.proofs.lemmas.List.Elements.{All-contains}
use Rattle.std.proofs.lemmas.List.Kept.{AllPairs-cons}
use Rattle.lore_store.specs.Types.{EDGES}
use Rattle.lore_base.specs.declared.edges.Oid.{Oid}
use Rattle.lore_base.specs.declared.edges.Edge.{Edge}
use Rattle.lore_base.specs.declared.values.Value.{Value}
use Rattle.index_traits.specs.declared.entries.ValueEntry.{ValueEntry}
use Rattle.lore_base.specs.Databases.{OemGraph, IsLive, IsLinked, IsRooted}
use Rattle.lore_base.specs.Deltas.{IsOnlyIn, ListsOnlyIn}
use Rattle.index_traits.specs.Entries.{AreLinks, AreAscendingLinks, AreValueEntries, IsValueEntry, AreAscendingEntries, entry_cmp}
use Rattle.sorted_list.specs.SortedLists.{IsThen, IsChange, IsLessWith}
use Rattle.value_index.specs.Values.{FitsEntries}
use Rattle.value_changes.specs.EntryChanges.{State, HasEntry, IsSettled, AreGraphChanges, TakesTo, AreEntryChanges}
use Rattle.value_changes.specs.Reads.{AreRead}
use Rattle.lore_base.proofs.ListLaws.{AllPairs-head, AllPairs-tail}
use Rattle.lore_base.proofs.ToldLaws.{IsTold, told_same, told_both, told_member, told_oid, told_edge, told_value}
use Rattle.list_laws.proofs.PairLaws.{AllPairs-nil}
use Rattle.list_laws.proofs.SumLaws.{distinct_no_longer}
use Rattle.list_laws.proofs.MemberLaws.{All-from_members, Contains-from_map, Contains-map}
use Rattle.index_traits.proofs.ObjectLaws.{one_value_of}
use Rattle.lore_store.specs.declared.indexes.Indexes.{Indexes}
use Rattle.lore_store.specs.declared.indexes.IndexPlan.{IndexPlan}
use Rattle.lore_store.specs.Indexes.{AreIndexes, AreIndexed, state_of}
use Rattle.lore_store.specs.inside.Fitting.{FitsIndexes}

-- ---- what a list holds that takes in a change
module _ {T : Type 0} (Before After : T → Type 0) (kept gone come : List T) (same : (item : T) → Contains kept item ↔ Before item)
    (takes : TakesTo Before After gone come) where
  pub is_change : IsChange kept gone come
  is_change = record {
    kept_ones = All-from_members (Contains kept) gone (λ item at. (same item).1 (takes.gone_ones item at));
    new_ones = All-from_members (λ item. (Contains kept item × (Contains gone item → ⊥)) → ⊥) come
        (λ item at both. both.1 ((takes.come_ones item at).1 ((same item).0 both.0)));
  }

  pub holds : (item : T) → IsThen kept gone come item → After item
  holds item (inl came) = (takes.come_ones item came).0
  holds item (inr (there, left)) = elim (takes.stays item ((same item).0 there)) [
    | inl goes ↦ absurd (left goes)
    | inr then ↦ then
  ]

  pub held : (after : List T) → IsLessWith kept gone come after → (item : T) → Contains after item ↔ After item
  held after less item = (
    λ at. holds item ((less item).0 at),
    λ then. (less item).1 (elim (takes.rest item then) [
      | inl came ↦ inl came
      | inr (there, left) ↦ inr ((same item).1 there, left)
    ]),
  )

-- ---- links
-- the edges by which two lists differ take the one to the other
pub links_take : (edges then gone come : List Edge) → ((edge : Edge) → Contains gone edge ↔ IsOnlyIn edges then edge)
    → ((edge : Edge) → Contains come edge ↔ IsOnlyIn then edges edge) → TakesTo (Contains edges) (Contains then) gone come
links_take edges then gone come goes comes = record {
  gone_ones = λ edge at. ((goes edge).0 at).0;
  come_ones = λ edge at. let only = (comes edge).0 at in (only.0, λ there. absurd (only.1 there));
  stays = λ edge there. elim (told_member told_edge then edge) [
    | inl at ↦ inr at
    | inr none ↦ inl ((goes edge).1 (there, none))
  ];
  rest = λ edge at. elim (told_member told_edge edges edge) [
    | inl there ↦ inr (there, λ goes_out. ((goes edge).0 goes_out).1 at)
    | inr none ↦ inl ((comes edge).1 (at, none))
  ];
}

-- what holds of the edges of a list holds of them in another order
pub links_same : (edges then links given : List Edge) → AreLinks given links
    → ((edge : Edge) → Contains given edge ↔ IsOnlyIn edges then edge) → (edge : Edge) → Contains links edge ↔ IsOnlyIn edges then edge
links_same edges then links given stands exact edge = (
  λ at. (exact edge).0 ((stands.exact edge).0 at),
  λ only. (stands.exact edge).1 ((exact edge).1 only),
)

-- edges that go stand in the index, and those that come don't
pub gone_kept : (edges then links gone : List Edge) → AreLinks edges links
    → ((edge : Edge) → Contains gone edge ↔ IsOnlyIn edges then edge) → All (Contains links) gone
gone_kept edges then links gone stands goes =
    All-from_members (Contains links) gone (λ edge at. (stands.exact edge).1 ((goes edge).0 at).0)

pub come_new : (edges then links come : List Edge) → AreLinks edges links
    → ((edge : Edge) → Contains come edge ↔ IsOnlyIn then edges edge) → All (λ edge. Contains links edge → ⊥) come
come_new edges then links come stands comes =
    All-from_members (λ edge. Contains links edge → ⊥) come (λ edge at there. ((comes edge).0 at).1 ((stands.exact edge).0 there))

-- ---- value entries
abbrev key_of : ValueEntry → ℕ × ℕ
key_of entry = (entry.label.0, entry.object.0)

abbrev edge_key : Edge → ℕ × ℕ
edge_key edge = (edge.label.0, edge.child.0)

less_apart : (a b : ValueEntry) → entry_cmp a b ≡ Less → (a.label.0 ≡ b.label.0) → (a.object.0 ≡ b.object.0) → ⊥
less_apart a b less label object = grind (arith, nat_tests)

keys_apart : (list : List ValueEntry) → AreAscendingEntries list → AllPairs (λ a b. a ≢ b) (map key_of list)
keys_apart [] ascend = AllPairs-nil (λ (a b : ℕ × ℕ). a ≢ b)
keys_apart (first ∷ others) ascend =
    AllPairs-cons (λ (a b : ℕ × ℕ). a ≢ b) (key_of first) (map key_of others)
    (All-from_members (λ key. key_of first ≢ key) (map key_of others) (λ key at same.
    let from = Contains-from_map key_of others key at in
    let is = same ∙ sym from.2 in
    less_apart first from.0 (AllPairs-head (λ (a b : ValueEntry). entry_cmp a b ≡ Less) first others ascend from.0 from.1)
    (ap (λ (k : ℕ × ℕ). k.0) is) (ap (λ (k : ℕ × ℕ). k.1) is)))
    (keys_apart others (AllPairs-tail (λ (a b : ValueEntry). entry_cmp a b ≡ Less) first others ascend))

-- there are no more entries than edges
pub few_entries : (objects : List (Oid × Value)) (edges : List Edge) (list : List ValueEntry) → AreAscendingEntries list
    → ((entry : ValueEntry) → Contains list entry → IsValueEntry objects edges entry) → length list ≤ length edges
few_entries objects edges list ascend each =
    let within = distinct_no_longer (map key_of list) (map edge_key edges) (keys_apart list ascend)
    (λ key at.
    let from = Contains-from_map key_of list key at in
    let entered = (each from.0 from.1).entered in
    subst (Contains (map edge_key edges)) from.2 (Contains-map edge_key edges _ entered.1)) in
    omega (arith, within, length-map list key_of, length-map edges edge_key)

module _ (before after : OemGraph) (rooted : IsRooted after) (few : length after.edges ≤ EDGES) (kept gone come : List ValueEntry)
    (stands : AreValueEntries before.objects before.edges kept) (changes : AreEntryChanges (state_of before) (state_of after) gone come) where
  then_entry : (entry : ValueEntry) → IsThen kept gone come entry → IsValueEntry after.objects after.edges entry
  then_entry = holds (HasEntry (state_of before)) (HasEntry (state_of after)) kept gone come stands.exact changes.takes

  -- the change fits the entries that are kept
  pub fits_entries : FitsEntries kept gone come
  fits_entries = record {
    gone_ascend = changes.gone_ascend;
    come_ascend = changes.come_ascend;
    change = is_change (HasEntry (state_of before)) (HasEntry (state_of after)) kept gone come stands.exact changes.takes;
    atomic = All-from_members (λ entry. entry.value ≢ _) come (λ entry at. (changes.takes.come_ones entry at).0.atomic);
    one_value = λ a b in_a in_b same.
        one_value_of after.objects rooted.well_formed.ordered.objects_ascend b.object a.value b.value
        (subst (λ (oid : Oid). Contains after.objects (oid, a.value)) same (then_entry a in_a).live) (then_entry b in_b).live;
    few = λ list ascend less.
        let bound = few_entries after.objects after.edges list ascend (λ entry at. then_entry entry ((less entry).0 at)) in
        omega (arith, bound, few);
  }

-- ---- the states before and after
-- each object of a graph that names reach has one value, and the children of edges are live
settled : (graph : OemGraph) → IsRooted graph → IsSettled (state_of graph)
settled graph rooted = record {
  one_value = one_value_of graph.objects rooted.well_formed.ordered.objects_ascend;
  children = λ edge at. (All-contains (IsLinked graph.objects) graph.edges edge rooted.well_formed.edges_linked at).child;
}

-- an object that is live in both keeps its value unless one is given to it
abbrev pub KeepValues : OemGraph → OemGraph → List (Oid × Value) → Type 0
KeepValues before after given = (oid : Oid) (value : Value) → Contains before.objects (oid, value) → IsLive after.objects oid
    → IsLive given oid ⊎ Contains after.objects (oid, value)

told_object : (a b : Oid × Value) → IsTold (a ≡ b)
told_object a b =
    told_same (λ (h : (a.0 ≡ b.0) × (a.1 ≡ b.1)). λ i. (h.0 i, h.1 i))
    (λ same. (ap (λ (o : Oid × Value). o.0) same, ap (λ (o : Oid × Value). o.1) same))
    (told_both (told_oid a.0 b.0) (told_value a.1 b.1))

-- what comes with a value was given it
pub keeps_value : (before after : OemGraph) (come : List (Oid × Value)) → IsRooted before
    → ListsOnlyIn come after.objects before.objects → KeepValues before after come
keeps_value before after come rooted comes oid value there (other, live) =
    elim (told_member told_object before.objects (oid, other)) [
      | inl was ↦ inr (subst (λ (v : Value). Contains after.objects (oid, v))
          (one_value_of before.objects rooted.well_formed.ordered.objects_ascend oid other value was there) live)
      | inr new ↦ inl (other, (comes (oid, other)).1 (live, new))
    ]

-- ---- what a store works out
-- which entries go and come is found of any two states that differ so, so it is found of the two graphs
abbrev pub IsFound : OemGraph → OemGraph → List Edge → List Edge → List Edge → List Edge → List (Oid × Value)
    → List ValueEntry → List ValueEntry → Type 0
IsFound before after read added lost fresh given gone come =
    (old new : State) → old.objects ≡ before.objects → new.objects ≡ after.objects → IsSettled old → IsSettled new
    → AreGraphChanges old new lost fresh given → AreRead read old.edges lost added → AreEntryChanges old new gone come

pub found_changes : (before after : OemGraph) (read added lost fresh : List Edge) (given : List (Oid × Value)) → IsRooted before → IsRooted after
    → ListsOnlyIn lost before.edges after.edges → ListsOnlyIn fresh after.edges before.edges → KeepValues before after given
    → AreRead read before.edges lost added → (gone come : List ValueEntry)
    → IsFound before after read added lost fresh given gone come → AreEntryChanges (state_of before) (state_of after) gone come
found_changes before after read added lost fresh given rooted rooted_then goes comes keeps reads gone come found =
    found (state_of before) (state_of after) refl refl (settled before rooted) (settled after rooted_then)
    (record { lost_exact = goes; fresh_exact = comes; keep = keeps }) reads

-- ---- what is committed
-- the plan that leads from one graph to another fits the indexes of the one
pub fits_indexes : (before after : OemGraph) (kept : Indexes) (plan : IndexPlan) → AreIndexes before kept → AreIndexed before after plan → IsRooted after
    → length after.edges ≤ EDGES → FitsIndexes kept plan
fits_indexes before after kept plan stand leads rooted few = record {
  gone = gone_kept before.edges after.edges kept.links.links plan.links.gone stand.links leads.gone;
  come = come_new before.edges after.edges kept.links.links plan.links.come stand.links leads.come;
  values = fits_entries before after rooted few kept.values.entries plan.values.gone plan.values.come stand.values leads.values;
}

-- and these become the indexes of the other
pub indexes_then : (before after : OemGraph) (kept then : Indexes) (plan : IndexPlan) → AreAscendingLinks then.links.links
    → IsLessWith kept.links.links plan.links.gone plan.links.come then.links.links → AreAscendingEntries then.values.entries
    → IsLessWith kept.values.entries plan.values.gone plan.values.come then.values.entries
    → AreIndexes before kept → AreIndexed before after plan → AreIndexes after then
indexes_then before after kept then plan links_ascend links_less entries_ascend entries_less stand leads =
    let taken = links_take before.edges after.edges plan.links.gone plan.links.come leads.gone leads.come in
    record {
      links = record {
        ascend = links_ascend;
        exact = held (Contains before.edges) (Contains after.edges) kept.links.links plan.links.gone plan.links.come stand.links.exact taken then.links.links links_less;
      };
      values = record {
        ascend = entries_ascend;
        exact = held (HasEntry (state_of before)) (HasEntry (state_of after)) kept.values.entries plan.values.gone plan.values.come stand.values.exact
            leads.values.takes then.values.entries entries_less;
      };
    }
