-- Which views are fresh once a database is changed, and once views are put, taken away and given rows.
use Rattle.std.proofs.Common.{◌≡◌, ◌⊎◌, ℕ, ◌<◌, ◌≤◌, inl, inr, Bool, true, false, true≢false, cond, List, [], ◌∷◌, ◌++◌, Option, Some, None, is_some, Less, refl, sym, ap, subst, ◌∙◌, append-nil, arith}
use Rattle.std.specs.Prelude.{◌↔◌}
use Rattle.std.specs.List.{Contains}
use Rattle.std.specs.Map.{keys_of, remove_entry}
use Rattle.std.specs.BTreeMap.{insert_entry, is_at}
use Rattle.std.specs.List.Sorted.{IsStrictlySortedBy}
use Rattle.std.specs.Cmp.{IsEquivalence}
use Rattle.std.specs.Ordering.{eq_by_cmp}
use Rattle.std.proofs.lemmas.Cmp.{nat_list_cmp_total, eq_by_cmp_equiv}
use Rattle.std.proofs.lemmas.Map.{lookup-remove_entry}
use Rattle.std.proofs.lemmas.Map.Keys.{IsDistinct-from_sorted}
use Rattle.std.proofs.lemmas.Option.{none-some, same_Some}
use Rattle.lore_base.specs.Bytes.{bytes_cmp}
use Rattle.lore_base.specs.Walks.{edge_cmp}
use Rattle.lore_base.specs.Databases.{OemGraph, Database, IsValid, AreAscendingObjects, AreAscendingEdges}
use Rattle.lore_base.specs.Names.{IsNameTable}
use Rattle.lore_base.specs.Deltas.{ListsOnlyIn, IsDelta}
use Rattle.lore_base.proofs.NameLaws.{sorted-insert_entry, sorted-remove_entry, lookup-insert_entry}
use Rattle.lore_base.proofs.ToldLaws.{told_bytes}
use Rattle.lore_base.proofs.MemberLaws.{Contains-none}
use Rattle.list_laws.proofs.PairLaws.{AllPairs-nil}
use Rattle.lorel_trees.specs.Trees.{SelectTree, select_tree}
use Rattle.lorel_ranges.specs.Texts.{IsShallow}
use Rattle.live_views.specs.Types.{Select}
use Rattle.live_views.specs.Views.{KeptRows, View, NamedView, view_of, Turns, TurnsRows, ConcernsView}
use Rattle.live_views.specs.Concerns.{Concerns}
use Rattle.live_views.proofs.RowLaws.{TurnsRows-untold}
use Rattle.view_laws.specs.Types.{Oid, Edge, Value, Delta}
use Rattle.view_laws.specs.Laws.{IsChange, IsFresh}
use Rattle.view_laws.specs.Freshness.{query_in, queries_of, fresh_of, AreFreshOver, AreViewsOf, ConcernsBetween}
use Rattle.view_laws.proofs.UnconcernedLaws.{fresh_stays}
use Rattle.view_laws.proofs.KeptViewLaws.{same_name, own_name, found_view, view_found, tree_of, query_from, view_from, fresh_from, fresh_to}
use Rattle.view_laws.proofs.KeptViewLaws.{IsTurnedView, turned_queries, turned_keys, turned_from, turned_to}

-- ---- deltas
-- what two graphs differ in concerns a select, whichever delta tells it
pub same_concerns : (before after : OemGraph) (one other : Delta) (labels : List (List ℕ)) (query : SelectTree)
    → IsDelta before after one → IsDelta before after other → Concerns labels query one → Concerns labels query other
same_concerns before after one other labels query is also (inl (name, start, inl gone)) =
    inl (name, start, inl (gone.0, (also.names_gone (name, gone.0)).1 ((is.names_gone (name, gone.0)).0 gone.1)))
same_concerns before after one other labels query is also (inl (name, start, inr come)) =
    inl (name, start, inr (come.0, (also.names_come (name, come.0)).1 ((is.names_come (name, come.0)).0 come.1)))
same_concerns before after one other labels query is also (inr (inl (edge, inl gone, stepped))) =
    inr (inl (edge, inl ((also.edges_gone edge).1 ((is.edges_gone edge).0 gone)), stepped))
same_concerns before after one other labels query is also (inr (inl (edge, inr come, stepped))) =
    inr (inl (edge, inr ((also.edges_come edge).1 ((is.edges_come edge).0 come)), stepped))
same_concerns before after one other labels query is also (inr (inr (compares, (oid, gone, come)))) =
    inr (inr (
      compares,
      (
        oid,
        (gone.0, (also.objects_gone (oid, gone.0)).1 ((is.objects_gone (oid, gone.0)).0 gone.1)),
        (come.0, (also.objects_come (oid, come.0)).1 ((is.objects_come (oid, come.0)).0 come.1)),
      ),
    ))

-- a graph differs in nothing from itself
nothing_only : {X : Type 0} (list items others : List X) (item : X) → ListsOnlyIn list items others → others ≡ items → Contains list item → ⊥
nothing_only {X = X} list items others item lists same there =
    let only = (lists item).0 there in only.1 (subst (λ (l : List X). Contains l item) (sym same) only.0)

pub none_concerned : (before after : OemGraph) (delta : Delta) (labels : List (List ℕ)) (query : SelectTree) → IsDelta before after delta → after ≡ before
    → Concerns labels query delta → ⊥
none_concerned before after delta labels query is same (inl (name, start, inl gone)) =
    nothing_only delta.names_gone before.names after.names (name, gone.0) is.names_gone (ap (λ (g : OemGraph). g.names) same) gone.1
none_concerned before after delta labels query is same (inl (name, start, inr come)) =
    nothing_only delta.names_come after.names before.names (name, come.0) is.names_come (sym (ap (λ (g : OemGraph). g.names) same)) come.1
none_concerned before after delta labels query is same (inr (inl (edge, inl gone, stepped))) =
    nothing_only delta.edges_gone before.edges after.edges edge is.edges_gone (ap (λ (g : OemGraph). g.edges) same) gone
none_concerned before after delta labels query is same (inr (inl (edge, inr come, stepped))) =
    nothing_only delta.edges_come after.edges before.edges edge is.edges_come (sym (ap (λ (g : OemGraph). g.edges) same)) come
none_concerned before after delta labels query is same (inr (inr (compares, (oid, gone, come)))) =
    nothing_only delta.objects_gone before.objects after.objects (oid, gone.0) is.objects_gone (ap (λ (g : OemGraph). g.objects) same) gone.1

pub none_between : (before after : Database) (query : SelectTree) → after.graph ≡ before.graph → ConcernsBetween before after query → ⊥
none_between before after query same between =
    none_concerned before.graph after.graph between.0 after.labels query between.1 same between.2

none_there : (first : NamedView) (others : List NamedView) → first ∷ others ≡ [] → ⊥
none_there first others is = cc

-- ---- a change
module _ (before after : Database) (delta : Delta) (change : IsChange before after delta) (views later : List NamedView) (marks : List (List ℕ))
    (turned : TurnsRows (Contains marks) None views later)
    (exact : (name : List ℕ) → Contains marks name ↔ ConcernsView after.labels views delta name)
    (of : AreViewsOf before views) (next : before.graph.next ≤ after.graph.next) where
  ascend_then : IsStrictlySortedBy bytes_cmp (keys_of later)
  ascend_then = subst (IsStrictlySortedBy bytes_cmp) (sym (turned_keys (Contains marks) None views later turned)) of.ascend

  -- where rows are left the change doesn't concern the select
  free : (name : List ℕ) (old : View) → view_of views name ≡ Some old → (Contains marks name → ⊥) → Concerns after.labels (tree_of old) delta → ⊥
  free name old was untold concerns = untold ((exact name).1 (old, found_view views name old was, concerns))

  unmarked : (name : List ℕ) (new : View) → (Contains marks name → new.rows ≡ None) → is_some new.rows ≡ true → Contains marks name → ⊥
  unmarked name new gone has told = true≢false (sym has ∙ ap is_some (gone told))

  fresh_then : AreFreshOver after later
  fresh_then name new rows found has =
      let from = turned_from (Contains marks) None views later turned name new found in
      let untold = unmarked name new from.2.turned (ap is_some has) in
      let fresh = of.fresh name from.0 rows from.1 (sym (from.2.kept untold) ∙ has) in
      subst (λ (select : Select). IsFresh after (select_tree select) rows) (sym from.2.select)
      (fresh_stays before after delta (tree_of from.0) rows change (free name from.0 from.1 untold) fresh)

  none_later : (some none : List NamedView) → TurnsRows (Contains marks) None none some → none ≡ [] → some ≡ []
  none_later [] [] turns is = refl
  none_later [] (before ∷ views) turns is = absurd turns
  none_later (after ∷ later) [] turns is = absurd turns
  none_later (after ∷ later) (before ∷ views) turns is = absurd (none_there before views is)

  pub views_then : AreViewsOf after later
  views_then = record {
    ascend = ascend_then;
    shallow = λ name new found.
        let from = turned_from (Contains marks) None views later turned name new found in
        subst (λ (select : Select). IsShallow (select_tree select)) (sym from.2.select) (of.shallow name from.0 from.1);
    fresh = fresh_then;
    old = λ some. let old : 1 < before.graph.next = of.old (λ none. some (none_later later views turned none)) in omega (arith, old, next);
  }

  pub kept_then : (name : List ℕ) (query : SelectTree) → query_in (queries_of later) name ≡ Some query
      → Contains (fresh_of later) name ↔ (Contains (fresh_of views) name × (¬ ConcernsBetween before after query))
  kept_then name query asked = (
    λ fresh.
        let own = fresh_from later ascend_then name fresh in
        let from = turned_from (Contains marks) None views later turned name own.0 own.1 in
        let untold = unmarked name own.0 from.2.turned own.2 in
        let is : tree_of from.0 ≡ query =
        ap select_tree (sym from.2.select) ∙ same_Some _ _ (sym (query_from later name own.0 own.1) ∙ asked) in (
          fresh_to views name from.0 from.1 (ap is_some (sym (from.2.kept untold)) ∙ own.2),
          λ between. free name from.0 from.1 untold
              (subst (λ (q : SelectTree). Concerns after.labels q delta) (sym is)
              (same_concerns before.graph after.graph between.0 delta after.labels query between.1 change.differs between.2)),
        ),
    λ h.
        let own = fresh_from views of.ascend name h.0 in
        let to = turned_to (Contains marks) None views later turned name own.0 own.1 in
        let is : tree_of own.0 ≡ query =
        ap select_tree (sym to.2.select) ∙ same_Some _ _ (sym (query_from later name to.0 to.1) ∙ asked) in
        let untold : Contains marks name → ⊥ = λ told.
        let seen = (exact name).0 told in
        let same : seen.0 ≡ own.0 = same_Some _ _ (sym (view_found views of.ascend name seen.0 seen.1) ∙ own.1) in
        h.1 (delta, change.differs, subst (λ (q : SelectTree). Concerns after.labels q delta) (ap tree_of same ∙ is) seen.2) in
        fresh_to later name to.0 to.1 (ap is_some (to.2.kept untold) ∙ own.2),
  )

-- ---- nothing changes of names, objects and edges
abbrev pub no_delta : Delta
no_delta = record {
  names_gone = [];
  names_come = [];
  objects_gone = [];
  objects_come = [];
  edges_gone = [];
  edges_come = [];
}

no_objects : AreAscendingObjects []
no_objects = AllPairs-nil (λ (a b : Oid × Value). a.0.0 < b.0.0)

no_edges : AreAscendingEdges []
no_edges = AllPairs-nil (λ (a b : Edge). edge_cmp a b ≡ Less)

none_named : IsNameTable []
unfolding IsStrictlySortedBy
none_named = tt

nothing_lists : {X : Type 0} (items others : List X) → others ≡ items → ListsOnlyIn [] items others
nothing_lists {X = X} items others same item = (
  λ there. absurd (Contains-none item there),
  λ only. absurd (only.1 (subst (λ (l : List X). Contains l item) (sym same) only.0)),
)

pub no_delta_is : (before after : OemGraph) → after ≡ before → IsDelta before after no_delta
no_delta_is before after same = record {
  names_gone = nothing_lists before.names after.names (ap (λ (g : OemGraph). g.names) same);
  names_come = nothing_lists after.names before.names (sym (ap (λ (g : OemGraph). g.names) same));
  objects_gone = nothing_lists before.objects after.objects (ap (λ (g : OemGraph). g.objects) same);
  objects_come = nothing_lists after.objects before.objects (sym (ap (λ (g : OemGraph). g.objects) same));
  edges_gone = nothing_lists before.edges after.edges (ap (λ (g : OemGraph). g.edges) same);
  edges_come = nothing_lists after.edges before.edges (sym (ap (λ (g : OemGraph). g.edges) same));
  names_ascend = (none_named, none_named);
  objects_ascend = (no_objects, no_objects);
  edges_ascend = (no_edges, no_edges);
}

module _ (before after : Database) (valid : IsValid before) (valid_after : IsValid after) (same : after.graph ≡ before.graph) (labels : after.labels ≡ before.labels)
    (views : List NamedView) (of : AreViewsOf before views) where
  still_change : IsChange before after no_delta
  still_change = record {
    before_valid = valid;
    after_valid = valid_after;
    new_labels = [];
    labels = labels ∙ sym (append-nil before.labels);
    differs = no_delta_is before.graph after.graph same;
  }

  none_marked : (name : List ℕ) → Contains [] name ↔ ConcernsView after.labels views no_delta name
  none_marked name = (
    λ there. absurd (Contains-none name there),
    λ seen. absurd (none_concerned before.graph after.graph no_delta after.labels (tree_of seen.0) (no_delta_is before.graph after.graph same) same seen.2),
  )

  pub still_views : AreViewsOf after views
  still_views =
      let next : after.graph.next ≡ before.graph.next = ap (λ (g : OemGraph). g.next) same in
      views_then before after no_delta still_change views views []
      (TurnsRows-untold (Contains []) None views (λ entry there told. Contains-none entry.0 told)) none_marked of (omega (arith, next))

  -- and the same views are fresh
  pub still_fresh : (name : List ℕ) (query : SelectTree)
      → Contains (fresh_of views) name ↔ (Contains (fresh_of views) name × (¬ ConcernsBetween before after query))
  still_fresh name query = (λ fresh. (fresh, none_between before after query same), λ h. h.0)

-- no views are those of any database
no_names : IsStrictlySortedBy bytes_cmp []
unfolding IsStrictlySortedBy
no_names = tt

pub no_views : (db : Database) → AreViewsOf db []
no_views db = record {
  ascend = no_names;
  shallow = λ name view found. absurd (none-some view found);
  fresh = λ name view rows found has. absurd (none-some view found);
  old = λ some. absurd (some refl);
}

-- ---- a view is put
module _ (db : Database) (views : List NamedView) (of : AreViewsOf db views) (name : List ℕ) (select : Select) (answer : KeptRows) where
  abbrev pub own_view : View
  own_view = record { select = select; rows = Some answer }

  abbrev pub put_views : List NamedView
  put_views = insert_entry bytes_cmp views name own_view

  put_found : (other : List ℕ) → view_of put_views other ≡ cond (is_at (bytes_cmp other) name) (Some own_view) (view_of views other)
  put_found other = lookup-insert_entry nat_list_cmp_total views name own_view other

  put_ascend : IsStrictlySortedBy bytes_cmp (keys_of put_views)
  put_ascend = sorted-insert_entry nat_list_cmp_total views name own_view of.ascend

  -- a view that is there then is the new one, or was there
  put_from : (other : List ℕ) (view : View) → view_of put_views other ≡ Some view
      → ((other ≡ name) × (view ≡ own_view)) ⊎ (view_of views other ≡ Some view)
  put_from other view found = by_case (is_at (bytes_cmp other) name) refl (sym (put_found other) ∙ found)
    where
      by_case : (b : Bool) → is_at (bytes_cmp other) name ≡ b → cond b (Some own_view) (view_of views other) ≡ Some view
          → ((other ≡ name) × (view ≡ own_view)) ⊎ (view_of views other ≡ Some view)
      by_case true is here = inl (same_name other name is, sym (same_Some _ _ here))
      by_case false is behind = inr behind

  pub put_are : IsShallow (select_tree select) → IsFresh db (select_tree select) answer → 1 < db.graph.next → AreViewsOf db put_views
  put_are shallow fresh old = record {
    ascend = put_ascend;
    shallow = λ other view found. elim (put_from other view found) [
      | inl own ↦ subst (λ (v : View). IsShallow (tree_of v)) (sym own.1) shallow
      | inr was ↦ of.shallow other view was
    ];
    fresh = λ other view rows found has. elim (put_from other view found) [
      | inl own ↦
          let rows_are : answer ≡ rows = same_Some _ _ (sym (ap (λ (v : View). v.rows) own.1) ∙ has) in
          subst (λ (v : View). IsFresh db (tree_of v) rows) (sym own.1) (subst (IsFresh db (select_tree select)) rows_are fresh)
      | inr was ↦ of.fresh other view rows was has
    ];
    old = λ some. old;
  }

  pub put_fresh : (other : List ℕ) (query : SelectTree)
      → Contains (fresh_of put_views) other ↔ ((name ≡ other) ⊎ (Contains (fresh_of views) other × (¬ ConcernsBetween db db query)))
  put_fresh other query = (
    λ fresh.
        let own = fresh_from put_views put_ascend other fresh in
        elim (put_from other own.0 own.1) [
          | inl new ↦ inl (sym new.0)
          | inr was ↦ inr (fresh_to views other own.0 was own.2, none_between db db query refl)
        ],
    λ h. by_case (is_at (bytes_cmp other) name) refl h,
  )
    where
      by_case : (b : Bool) → is_at (bytes_cmp other) name ≡ b → ((name ≡ other) ⊎ (Contains (fresh_of views) other × (¬ ConcernsBetween db db query)))
          → Contains (fresh_of put_views) other
      by_case true is h =
          fresh_to put_views other own_view (put_found other ∙ ap (λ (b : Bool). cond b (Some own_view) (view_of views other)) is) refl
      by_case false is (inl same) = absurd (true≢false (sym (own_name other name (sym same)) ∙ is))
      by_case false is (inr old) =
          let own = fresh_from views of.ascend other old.0 in
          fresh_to put_views other own.0 (put_found other ∙ ap (λ (b : Bool). cond b (Some own_view) (view_of views other)) is ∙ own.1) own.2

-- ---- a view is taken away
module _ (db : Database) (views : List NamedView) (of : AreViewsOf db views) (name : List ℕ) where
  names_equiv : IsEquivalence (eq_by_cmp bytes_cmp)
  names_equiv = eq_by_cmp_equiv nat_list_cmp_total

  abbrev pub left_views : List NamedView
  left_views = remove_entry (is_at (bytes_cmp name)) views

  left_found : (other : List ℕ) → view_of left_views other ≡ cond (is_at (bytes_cmp name) other) None (view_of views other)
  left_found other =
      lookup-remove_entry names_equiv (is_at (bytes_cmp name)) (λ x y h. names_equiv.congr name x y h) other views
      (IsDistinct-from_sorted bytes_cmp (keys_of views) of.ascend)

  left_from : (other : List ℕ) (view : View) → view_of left_views other ≡ Some view → view_of views other ≡ Some view
  left_from other view found = by_case (is_at (bytes_cmp name) other) (sym (left_found other) ∙ found)
    where
      by_case : (b : Bool) → cond b None (view_of views other) ≡ Some view → view_of views other ≡ Some view
      by_case true here = absurd (none-some view here)
      by_case false behind = behind

  left_ascend : IsStrictlySortedBy bytes_cmp (keys_of left_views)
  left_ascend = sorted-remove_entry bytes_cmp (is_at (bytes_cmp name)) views of.ascend

  none_left : (all : List NamedView) → all ≡ [] → remove_entry (is_at (bytes_cmp name)) all ≡ []
  none_left all none = ap (remove_entry (is_at (bytes_cmp name))) none

  pub left_are : AreViewsOf db left_views
  left_are = record {
    ascend = left_ascend;
    shallow = λ other view found. of.shallow other view (left_from other view found);
    fresh = λ other view rows found has. of.fresh other view rows (left_from other view found) has;
    old = λ some. of.old (λ none. some (none_left views none));
  }

  pub left_fresh : (other : List ℕ) (query : SelectTree) → query_in (queries_of left_views) other ≡ Some query
      → Contains (fresh_of left_views) other ↔ (Contains (fresh_of views) other × (¬ ConcernsBetween db db query))
  left_fresh other query asked = (
    λ fresh.
        let own = fresh_from left_views left_ascend other fresh in
        (fresh_to views other own.0 (left_from other own.0 own.1) own.2, none_between db db query refl),
    λ h.
        let own = fresh_from views of.ascend other h.0 in
        let there = view_from left_views other query asked in
        let same : own.0 ≡ there.0 = same_Some _ _ (sym own.1 ∙ left_from other there.0 there.1) in
        fresh_to left_views other there.0 there.1 (subst (λ (v : View). is_some v.rows ≡ true) same own.2),
  )

-- ---- a view is given rows
module _ (db : Database) (views later : List NamedView) (of : AreViewsOf db views) (name : List ℕ) (answer : KeptRows)
    (turned : TurnsRows (λ own. own ≡ name) (Some answer) views later) where
  given_ascend : IsStrictlySortedBy bytes_cmp (keys_of later)
  given_ascend = subst (IsStrictlySortedBy bytes_cmp) (sym (turned_keys (λ own. own ≡ name) (Some answer) views later turned)) of.ascend

  none_given : (all none : List NamedView) → TurnsRows (λ own. own ≡ name) (Some answer) none all → none ≡ [] → all ≡ []
  none_given [] [] turns is = refl
  none_given [] (before ∷ views) turns is = absurd turns
  none_given (after ∷ later) [] turns is = absurd turns
  none_given (after ∷ later) (before ∷ views) turns is = absurd (none_there before views is)

  pub given_are : (view : View) → view_of views name ≡ Some view → IsFresh db (tree_of view) answer → AreViewsOf db later
  given_are view there fresh = record {
    ascend = given_ascend;
    shallow = λ other new found.
        let from = turned_from (λ own. own ≡ name) (Some answer) views later turned other new found in
        subst (λ (select : Select). IsShallow (select_tree select)) (sym from.2.select) (of.shallow other from.0 from.1);
    fresh = λ other new rows found has.
        let from = turned_from (λ own. own ≡ name) (Some answer) views later turned other new found in
        let old : IsFresh db (tree_of from.0) rows = elim (told_bytes other name) [
          | inl told ↦
              let rows_are : answer ≡ rows = same_Some _ _ (sym (from.2.turned told) ∙ has) in
              let is : view ≡ from.0 = same_Some _ _ (sym there ∙ subst (λ (n : List ℕ). view_of views n ≡ Some from.0) told from.1) in
              subst (IsFresh db (tree_of from.0)) rows_are (subst (λ (v : View). IsFresh db (tree_of v) answer) is fresh)
          | inr untold ↦ of.fresh other from.0 rows from.1 (sym (from.2.kept untold) ∙ has)
        ] in
        subst (λ (select : Select). IsFresh db (select_tree select) rows) (sym from.2.select) old;
    old = λ some. of.old (λ none. some (none_given later views turned none));
  }

  pub given_fresh : (other : List ℕ) (query : SelectTree) → query_in (queries_of later) other ≡ Some query
      → Contains (fresh_of later) other ↔ ((name ≡ other) ⊎ (Contains (fresh_of views) other × (¬ ConcernsBetween db db query)))
  given_fresh other query asked = (
    λ fresh.
        let own = fresh_from later given_ascend other fresh in
        let from = turned_from (λ own. own ≡ name) (Some answer) views later turned other own.0 own.1 in
        elim (told_bytes other name) [
          | inl told ↦ inl (sym told)
          | inr untold ↦ inr (
            fresh_to views other from.0 from.1 (ap is_some (sym (from.2.kept untold)) ∙ own.2),
            none_between db db query refl,
          )
        ],
    λ h.
        let there = view_from later other query asked in
        let from = turned_from (λ own. own ≡ name) (Some answer) views later turned other there.0 there.1 in
        fresh_to later other there.0 there.1 (elim (told_bytes other name) [
          | inl told ↦ ap is_some (from.2.turned told)
          | inr untold ↦ elim h [
            | inl same ↦ absurd (untold (sym same))
            | inr old ↦
                let own = fresh_from views of.ascend other old.0 in
                let same : own.0 ≡ from.0 = same_Some _ _ (sym own.1 ∙ from.1) in
                ap is_some (from.2.kept untold) ∙ subst (λ (v : View). is_some v.rows ≡ true) same own.2
          ]
        ]),
  )
