-- What statements on views leave of what is kept, in the words of the calls that they make of the views.
use Rattle.std.proofs.Common.{◌≡◌, ◌≢◌, ℕ, inl, inr, Bool, true, false, true≢false, cond, List, [], ◌∷◌, Option, Some, None, is_some, Result, Ok, Err, IfOk, refl, sym, ap, subst, ◌∙◌}
use Rattle.std.specs.Prelude.{IsSome, MatchOption, Contains}
use Rattle.std.specs.Map.{keys_of, lookup, remove_entry}
use Rattle.std.specs.BTreeMap.{insert_entry, is_at}
use Rattle.std.specs.List.Sorted.{IsStrictlySortedBy}
use Rattle.std.proofs.lemmas.Option.{none-some, same_Some}
use Rattle.lore_base.specs.Bytes.{bytes_cmp}
use Rattle.lore_base.specs.Databases.{Database, IsValid}
use Rattle.lore_base.specs.Verdicts.{IsFirst, IsToldBy}
use Rattle.lorel_trees.specs.Trees as t
use Rattle.lorel_trees.specs.Trees.{SelectTree, select_tree}
use Rattle.lorel_ranges.specs.Texts.{IsShallow}
use Rattle.doem_history.specs.Histories.{KeptHistory}
use Rattle.live_views.specs.Types.{Select}
use Rattle.live_views.specs.Views.{KeptRows, View, NamedView, view_of, select_in, rows_in, TurnsRows}
use Rattle.view_laws.specs.Laws.{IsFresh}
use Rattle.view_laws.specs.Freshness.{NamedQuery, query_in, queries_of, fresh_of, AreViewsOf}
use Rattle.view_laws.proofs.KeptViewLaws.{tree_of, query_from, no_query_from, fresh_from, fresh_to, turned_queries}
use Rattle.view_laws.proofs.FreshLaws.{put_are, left_are, given_are}
use Rattle.view_laws.proofs.StartLaws.{accepted_needs_object}
use Rattle.statements.specs.Types.{Refusal}
use Rattle.statements.specs.Types.refusals
use Rattle.statements.specs.Statements.{Cause, cause_order, Counts, Executes}
use Rattle.statements.specs.Uncounted.{ReadsNoEdge}
use Rattle.lore_db.specs.Types.{Reply, Rows}
use Rattle.lore_db.specs.States.{Kept, IsOneTooMany, StateCause, state_order, Performs, CountsNoStep}
use Rattle.lore_db.specs.Freshness.{KeepsFresh}
use Rattle.lore_db.specs.inside.Kept.{kept_of}
use Rattle.lore_db.proofs.KeptLaws.{put_queries, left_queries, watch_keeps, unwatch_keeps, show_keeps, fresh_keeps}
use Rattle.lore_db.proofs.ViewingLaws.{rows_fresh, fresh_executes, watch_performs, unwatch_performs, unwatch_lacks, show_performs, show_told, show_lacks}

-- ---- what is found of a view
pub select_found : (view : Option View) (select : Select) → Some select ≡ select_in view → (own : View) × (view ≡ Some own) × (own.select ≡ select)
select_found None select is = absurd (none-some select (sym is))
select_found (Some own) select is = (own, refl, sym (same_Some _ _ is))

pub no_select : (view : Option View) → None ≡ select_in view → view ≡ None
no_select None is = refl
no_select (Some own) is = absurd (none-some own.select is)

rows_found : (view : Option View) (rows : KeptRows) → Some rows ≡ rows_in view → (own : View) × (view ≡ Some own) × (own.rows ≡ Some rows)
rows_found None rows is = absurd (none-some rows (sym is))
rows_found (Some own) rows is = (own, refl, sym is)

-- one that is there, or none
is_there : (view : Option View) → is_some view ≡ true → (own : View) × (view ≡ Some own)
is_there None is = absurd (true≢false (sym is))
is_there (Some own) is = (own, refl)

not_there : (view : Option View) → is_some view ≡ false → view ≡ None
not_there None is = refl
not_there (Some own) is = absurd (true≢false is)

-- without rows it isn't fresh
pub stale : (views : List NamedView) → IsStrictlySortedBy bytes_cmp (keys_of views) → (name : List ℕ) → None ≡ rows_in (view_of views name)
    → Contains (fresh_of views) name → ⊥
stale views ascend name none fresh =
    let own = fresh_from views ascend name fresh in
    true≢false (sym own.2 ∙ ap is_some (sym (none ∙ ap rows_in own.1)))

-- what isn't there isn't taken away
remove_absent : {K X : Type 0} (test : K → Bool) (entries : List (K × X)) → lookup test entries ≡ None → remove_entry test entries ≡ entries
remove_absent test [] none = refl
remove_absent {K = K} {X = X} test (entry ∷ entries) none = by_case (λ absent. remove_absent test entries absent) (test entry.0) none
  where
    by_case : (lookup test entries ≡ None → remove_entry test entries ≡ entries) → (b : Bool) → cond b (Some entry.1) (lookup test entries) ≡ None
        → cond b entries (entry ∷ remove_entry test entries) ≡ entry ∷ entries
    by_case others true here = absurd (none-some entry.1 (sym here))
    by_case others false behind = ap (λ (left : List (K × X)). entry ∷ left) (others behind)

-- a reply of these rows has what they have
pub replied_rows : {E : Type 0} (result : Result Reply E) (rows : KeptRows) → IfOk result (λ reply. reply ≡ Rows rows) → (Has : Reply → Type 0)
    → Has (Rows rows) → IfOk result Has
replied_rows (Err error) rows is Has has = tt
replied_rows (Ok reply) rows is Has has = subst Has (sym is) has

module _ (db : Database) (history : Option KeptHistory) (views : List NamedView) (of : AreViewsOf db views) where
  abbrev before : Kept
  before = kept_of db history views

  -- ---- a select is kept
  module _ (name own : List ℕ) (query : SelectTree) (select : Select) (answer : KeptRows) (later : List NamedView)
      (named : own ≡ name) (copied : select_tree select ≡ query)
      (put : later ≡ insert_entry bytes_cmp views own (record { select = select; rows = Some answer }))
      (executed : Executes db (t.select query) (Rows answer) db) where
    watched_queries : queries_of later ≡ insert_entry bytes_cmp (queries_of views) name query
    watched_queries =
        ap queries_of put ∙ put_queries views own select answer
        ∙ (λ i. insert_entry bytes_cmp (queries_of views) (named i) (copied i))

    pub watched_performs : (reply : Reply) → Counts db reply → (IsOneTooMany before.state (t.watch name query) → ⊥)
        → Performs before.state (t.watch name query) reply (kept_of db history later).state
    watched_performs reply counts few =
        subst (λ (queries : List NamedQuery). Performs before.state (t.watch name query) reply (record before.state { views = queries }))
        (sym watched_queries) (watch_performs before.state name query answer reply executed few counts)

    pub watched_keeps : (reply : Reply) → Counts db reply → KeepsFresh before (t.watch name query) reply (kept_of db history later)
    watched_keeps reply counts =
        let all : List NamedView = insert_entry bytes_cmp views own (record { select = select; rows = Some answer }) in
        let kept = watch_keeps db history views of own select answer reply counts in
        subst (λ (others : List NamedView). KeepsFresh before (t.watch name query) reply (kept_of db history others)) (sym put)
        (subst (λ (other : List ℕ). KeepsFresh before (t.watch other query) reply (kept_of db history all)) named
        (subst (λ (tree : SelectTree). KeepsFresh before (t.watch own tree) reply (kept_of db history all)) copied kept))

    pub watched_are : IsValid db → IsShallow query → query.items ≢ [] → AreViewsOf db later
    watched_are valid shallow listed =
        let fresh = rows_fresh db query answer executed in
        let old = accepted_needs_object db query valid listed fresh.accepted in
        subst (AreViewsOf db) (sym put)
        (put_are db views of own select answer (subst IsShallow (sym copied) shallow)
        (subst (λ (tree : SelectTree). IsFresh db tree answer) (sym copied) fresh) old)

  -- ---- a view is taken away
  module _ (name : List ℕ) (later : List NamedView) (gone : later ≡ remove_entry (is_at (bytes_cmp name)) views) where
    pub unwatched_performs : (reply : Reply) → Counts db reply → is_some (view_of views name) ≡ true
        → Performs before.state (t.unwatch name) reply (kept_of db history later).state
    unwatched_performs reply counts was =
        let there = is_there (view_of views name) was in
        subst (λ (queries : List NamedQuery). Performs before.state (t.unwatch name) reply (record before.state { views = queries }))
        (sym (ap queries_of gone ∙ left_queries views name))
        (unwatch_performs before.state name (tree_of there.0) (query_from views name there.0 there.1) reply counts)

    pub unwatched_keeps : (reply : Reply) → KeepsFresh before (t.unwatch name) reply (kept_of db history later)
    unwatched_keeps reply =
        subst (λ (others : List NamedView). KeepsFresh before (t.unwatch name) reply (kept_of db history others)) (sym gone)
        (unwatch_keeps db history views of name reply)

    pub unwatched_are : AreViewsOf db later
    unwatched_are = subst (AreViewsOf db) (sym gone) (left_are db views of name)

    pub unwatched_none : is_some (view_of views name) ≡ false → later ≡ views
    unwatched_none none = gone ∙ remove_absent (is_at (bytes_cmp name)) views (not_there (view_of views name) none)

  pub unwatched_lacks : (name : List ℕ) → is_some (view_of views name) ≡ false
      → IsFirst (StateCause before.state (t.unwatch name)) state_order refusals.UnknownView
  unwatched_lacks name none = unwatch_lacks before.state name (no_query_from views name (not_there (view_of views name) none))

  -- ---- a view is shown that is fresh
  module _ (name : List ℕ) (rows : KeptRows) (kept : Some rows ≡ rows_in (view_of views name)) where
    pub fresh_performs : Performs before.state (t.show name) (Rows rows) before.state
    fresh_performs =
        let own = rows_found (view_of views name) rows kept in
        let fresh = of.fresh name own.0 rows own.1 own.2 in
        show_performs before.state name (tree_of own.0) (query_from views name own.0 own.1) rows (fresh_executes db (tree_of own.0) rows fresh)

    pub fresh_shown : KeepsFresh before (t.show name) (Rows rows) before
    fresh_shown =
        let own = rows_found (view_of views name) rows kept in
        fresh_keeps db history views of name rows (fresh_to views name own.0 own.1 (ap is_some own.2))

  -- ---- a view is shown that isn't
  pub shown_lacks : (name : List ℕ) → None ≡ select_in (view_of views name)
      → IsFirst (StateCause before.state (t.show name)) state_order refusals.UnknownView
  shown_lacks name none = show_lacks before.state name (no_query_from views name (no_select (view_of views name) none))

  module _ (name : List ℕ) (select : Select) (kept : Some select ≡ select_in (view_of views name)) where
    own_is : (own : View) × (view_of views name ≡ Some own) × (own.select ≡ select)
    own_is = select_found (view_of views name) select kept

    query_is : query_in (queries_of views) name ≡ Some (select_tree select)
    query_is = query_from views name own_is.0 own_is.1 ∙ ap (λ (own : Select). Some (select_tree own)) own_is.2

    pub shown_shallow : IsShallow (select_tree select)
    shown_shallow = subst (λ (own : Select). IsShallow (select_tree own)) own_is.2 (of.shallow name own_is.0 own_is.1)

    pub shown_there : IsSome (view_of views name)
    shown_there = subst IsSome (sym own_is.1) refl

    pub shown_told : (told : Option Refusal) → IsToldBy (Cause db (t.select (select_tree select))) cause_order told
        → IsToldBy (StateCause before.state (t.show name)) state_order told
    shown_told told h = show_told before.state name (select_tree select) query_is told h

    pub shown_quiet : (Contains (fresh_of views) name → ⊥) → CountsNoStep before (t.show name) → ReadsNoEdge db (t.select (select_tree select))
    shown_quiet not_fresh (inl fresh) = absurd (not_fresh fresh)
    shown_quiet not_fresh (inr quiet) =
        subst (λ (query : Option SelectTree). MatchOption query (Unit {0}) (λ tree. ReadsNoEdge db (t.select tree))) query_is quiet

    module _ (answer : KeptRows) (later : List NamedView) (turned : TurnsRows (λ own. own ≡ name) (Some answer) views later)
        (executed : Executes db (t.select (select_tree select)) (Rows answer) db) where
      pub shown_performs : Performs before.state (t.show name) (Rows answer) (kept_of db history later).state
      shown_performs =
          subst (λ (queries : List NamedQuery). Performs before.state (t.show name) (Rows answer) (record before.state { views = queries }))
          (sym (turned_queries (λ own. own ≡ name) (Some answer) views later turned))
          (show_performs before.state name (select_tree select) query_is answer executed)

      pub shown_keeps : KeepsFresh before (t.show name) (Rows answer) (kept_of db history later)
      shown_keeps = show_keeps db history views of name later answer answer turned

      pub shown_are : AreViewsOf db later
      shown_are =
          given_are db views later of name answer turned own_is.0 own_is.1
          (subst (λ (own : Select). IsFresh db (select_tree own) answer) (sym own_is.2) (rows_fresh db (select_tree select) answer executed))
