-- What is kept of a database, its history and its views, and what statements on views leave of it.
use Rattle.std.proofs.Common.{◌≡◌, ℕ, ◌≤◌, inl, inr, List, ◌++◌, Option, Some, None, Result, Ok, Err, IfOk, OnErr, refl, sym, ap, subst, ◌∙◌, arith}
use Rattle.std.specs.Prelude.{◌↔◌, length, Contains}
use Rattle.std.specs.Map.{remove_entry}
use Rattle.std.specs.BTreeMap.{insert_entry, is_at}
use Rattle.std.proofs.lemmas.List.{length-map}
use Rattle.lore_base.specs.Bytes.{bytes_cmp}
use Rattle.lore_base.specs.Databases.{Database, IsValid}
use Rattle.lore_base.specs.Types.{NoMemory}
use Rattle.lore_base.specs.Deltas.{IsDelta}
use Rattle.lorel_trees.specs.Trees as t
use Rattle.lorel_trees.specs.Trees.{SelectTree, StatementTree, select_tree}
use Rattle.doem_history.specs.Histories.{KeptHistory}
use Rattle.live_views.specs.Types.{Delta, Select}
use Rattle.live_views.specs.Views.{KeptRows, NamedView, view_of, TurnsRows, ConcernsView}
use Rattle.view_laws.specs.Laws.{IsChange}
use Rattle.view_laws.specs.Freshness.{query_in, queries_of, fresh_of, AreViewsOf, ConcernsBetween}
use Rattle.view_laws.proofs.KeptViewLaws.{tree_of, insert-retold, remove-retold, no_view_from, no_query_from}
use Rattle.view_laws.proofs.FreshLaws.{put_fresh, left_fresh, given_fresh, none_between, views_then, kept_then}
use Rattle.statements.specs.Types.{VIEWS, Refusal}
use Rattle.statements.specs.Stops.{IsRepliedTo}
use Rattle.statements.specs.declared.stops.Stop.{Stop}
use Rattle.statements.specs.declared.stops.Stop.TheVariants as stop
use Rattle.lore_db.specs.Types.{Reply, Rows, Refused}
use Rattle.statements.specs.Forms.{IsOfSession}
use Rattle.statements.specs.Made.{IsMade}
use Rattle.statements.specs.Statements.{Counts}
use Rattle.lore_db.specs.States.{Kept, IsOneTooMany}
use Rattle.lore_db.specs.Freshness.{IsAnswered, IsRefused, KeepsFresh}
use Rattle.lore_db.specs.inside.Kept.{kept_of}

-- the selects of views once one is put, or taken away
pub put_queries : (views : List NamedView) (name : List ℕ) (select : Select) (answer : KeptRows)
    → queries_of (insert_entry bytes_cmp views name (record { select = select; rows = Some answer }))
    ≡ insert_entry bytes_cmp (queries_of views) name (select_tree select)
put_queries views name select answer = insert-retold tree_of bytes_cmp views name (record { select = select; rows = Some answer })

pub left_queries : (views : List NamedView) (name : List ℕ)
    → queries_of (remove_entry (is_at (bytes_cmp name)) views) ≡ remove_entry (is_at (bytes_cmp name)) (queries_of views)
left_queries views name = remove-retold tree_of (is_at (bytes_cmp name)) views

-- one view too many is told of the views as it is of their selects
pub too_many : (db : Database) (history : Option KeptHistory) (views : List NamedView) (name : List ℕ) (query : SelectTree)
    → ((view_of views name ≡ None) × (VIEWS ≤ length views)) ↔ IsOneTooMany (kept_of db history views).state (t.watch name query)
too_many db history views name query =
    let long : length (queries_of views) ≡ length views = length-map views (λ (entry : NamedView). (entry.0, tree_of entry.1)) in (
      λ many. (no_query_from views name many.0, subst (λ (n : ℕ). VIEWS ≤ n) (sym long) many.1),
      λ many. (no_view_from views name many.0, subst (λ (n : ℕ). VIEWS ≤ n) long many.1),
    )

-- ---- which views are fresh behind statements that answer none of them
pub plain_unanswered : (statement : StatementTree) → (IsOfSession statement → ⊥) → (name : List ℕ) → IsAnswered statement name → ⊥
plain_unanswered (t.watch own query) plain name is = plain tt
plain_unanswered (t.show own) plain name is = plain tt
plain_unanswered statement plain name is = is

pub unanswered_keeps : (before after : Kept) (statement : StatementTree) (reply : Reply) → ((name : List ℕ) → IsAnswered statement name → ⊥)
    → ((name : List ℕ) (query : SelectTree) → query_in after.state.views name ≡ Some query
    → Contains after.fresh name ↔ (Contains before.fresh name × (¬ ConcernsBetween before.state.db after.state.db query)))
    → KeepsFresh before statement reply after
unanswered_keeps before after statement reply none keeps name query asked = (
  λ fresh. inr ((keeps name query asked).0 fresh),
  λ h. elim h [ inl own ↦ absurd (none name own.0) | inr old ↦ (keeps name query asked).1 old ],
)

-- where the graph and the views stay
pub same_keeps : (db then : Database) (history later : Option KeptHistory) (views : List NamedView) (statement : StatementTree) (reply : Reply)
    → ((name : List ℕ) → IsAnswered statement name → ⊥) → then.graph ≡ db.graph
    → KeepsFresh (kept_of db history views) statement reply (kept_of then later views)
same_keeps db then history later views statement reply none same =
    unanswered_keeps (kept_of db history views) (kept_of then later views) statement reply none
    (λ name query asked. (λ fresh. (fresh, none_between db then query same), λ h. h.0))

-- ---- where nothing changes
pub asked_keeps : {E : Type 0} (kept : Kept) (statement : StatementTree) → ((name : List ℕ) → IsAnswered statement name → ⊥) → (result : Result Reply E)
    → IfOk result (λ reply. KeepsFresh kept statement reply kept)
asked_keeps kept statement none (Err error) = tt
asked_keeps kept statement none (Ok reply) =
    unanswered_keeps kept kept statement reply none
    (λ name query asked. (λ fresh. (fresh, none_between kept.state.db kept.state.db query refl), λ h. h.0))

refused_keeps : (kept : Kept) (statement : StatementTree) (refusal : Refusal) → KeepsFresh kept statement (Refused refusal) kept
refused_keeps kept statement refusal name query asked = (
  λ fresh. inr (fresh, none_between kept.state.db kept.state.db query refl),
  λ h. elim h [ inl own ↦ absurd (own.1 tt) | inr old ↦ old.0 ],
)

-- a refusal that a stop tells is replied
pub replied_keeps : (before after : Kept) (statement : StatementTree) (done : Result Reply Stop) (result : Result Reply NoMemory) → IsRepliedTo done result
    → IfOk done (λ reply. KeepsFresh before statement reply after) → OnErr done (after ≡ before)
    → IfOk result (λ reply. KeepsFresh before statement reply after)
replied_keeps before after statement (Ok reply) result is fresh same =
    subst (λ (r : Result Reply NoMemory). IfOk r (λ reply. KeepsFresh before statement reply after)) (sym is) fresh
replied_keeps before after statement (Err (stop.Refused refusal)) result is fresh same =
    subst (λ (r : Result Reply NoMemory). IfOk r (λ reply. KeepsFresh before statement reply after)) (sym is)
    (subst (λ (kept : Kept). KeepsFresh before statement (Refused refusal) kept) (sym same) (refused_keeps before statement refusal))
replied_keeps before after statement (Err stop.NoMemory) result is fresh same =
    subst (λ (r : Result Reply NoMemory). IfOk r (λ reply. KeepsFresh before statement reply after)) (sym is.1) tt

-- ---- which views are fresh behind a change: those that were, and that aren't marked
module _ (before after : Database) (delta : Delta) (new_labels : List (List ℕ)) (valid : IsValid before) (valid_after : IsValid after)
    (labels : after.labels ≡ before.labels ++ new_labels) (differs : IsDelta before.graph after.graph delta)
    (views later : List NamedView) (marks : List (List ℕ)) (turned : TurnsRows (Contains marks) None views later)
    (table : List (List ℕ)) (seen : Delta) (table_is : table ≡ before.labels) (seen_is : seen ≡ delta)
    (exact : (name : List ℕ) → Contains marks name ↔ ConcernsView (table ++ new_labels) views seen name)
    (of : AreViewsOf before views) (next : before.graph.next ≤ after.graph.next) where
  change_is : IsChange before after delta
  change_is = record {
    before_valid = valid;
    after_valid = valid_after;
    new_labels = new_labels;
    labels = labels;
    differs = differs;
  }

  exactly : (name : List ℕ) → Contains marks name ↔ ConcernsView after.labels views delta name
  exactly name =
      let texts = ap (λ (l : List (List ℕ)). l ++ new_labels) table_is ∙ sym labels in
      subst (λ (d : Delta). Contains marks name ↔ ConcernsView after.labels views d name) seen_is
      (subst (λ (l : List (List ℕ)). Contains marks name ↔ ConcernsView l views seen name) texts (exact name))

  pub changed_views : AreViewsOf after later
  changed_views = views_then before after delta change_is views later marks turned exactly of next

  pub changed_keeps : (history then : Option KeptHistory) (statement : StatementTree) (reply : Reply) → ((name : List ℕ) → IsAnswered statement name → ⊥)
      → KeepsFresh (kept_of before history views) statement reply (kept_of after then later)
  changed_keeps history then statement reply none =
      unanswered_keeps (kept_of before history views) (kept_of after then later) statement reply none
      (kept_then before after delta change_is views later marks turned exactly of next)

-- the next number never falls
pub made_next : (before : Database) (statement : StatementTree) (after : Database) → IsMade before statement after → before.graph.next ≤ after.graph.next
made_next before statement after made = let next = made.is.graph.next in omega (arith, next)

-- ---- which views are fresh behind statements on views
counted_accepted : (db : Database) (reply : Reply) → Counts db reply → IsRefused reply → ⊥
counted_accepted db reply counts refused = subst IsRefused counts.2 refused

module _ (db : Database) (history : Option KeptHistory) (views : List NamedView) (of : AreViewsOf db views) (name : List ℕ) where
  pub watch_keeps : (select : Select) (answer : KeptRows) (reply : Reply) → Counts db reply
      → KeepsFresh (kept_of db history views) (t.watch name (select_tree select)) reply
      (kept_of db history (insert_entry bytes_cmp views name (record { select = select; rows = Some answer })))
  watch_keeps select answer reply counts other query asked =
      let put = put_fresh db views of name select answer other query in (
        λ fresh. elim (put.0 fresh) [
          | inl own ↦ inl (own, counted_accepted db reply counts)
          | inr old ↦ inr old
        ],
        λ h. put.1 (elim h [
          | inl own ↦ inl own.0
          | inr old ↦ inr old
        ]),
      )

  pub unwatch_keeps : (reply : Reply) → KeepsFresh (kept_of db history views) (t.unwatch name) reply
      (kept_of db history (remove_entry (is_at (bytes_cmp name)) views))
  unwatch_keeps reply other query asked =
      let left = left_fresh db views of name other query asked in
      (λ fresh. inr (left.0 fresh), λ h. left.1 (elim h [ inl own ↦ absurd own.0 | inr old ↦ old ]))

  pub show_keeps : (later : List NamedView) (answer rows : KeptRows) → TurnsRows (λ own. own ≡ name) (Some answer) views later
      → KeepsFresh (kept_of db history views) (t.show name) (Rows rows) (kept_of db history later)
  show_keeps later answer rows turned other query asked =
      let given = given_fresh db views later of name answer turned other query asked in (
        λ fresh. elim (given.0 fresh) [
          | inl own ↦ inl (own, λ refused. refused)
          | inr old ↦ inr old
        ],
        λ h. given.1 (elim h [
          | inl own ↦ inl own.0
          | inr old ↦ inr old
        ]),
      )

  -- a view that is fresh is shown, and nothing changes
  pub fresh_keeps : (rows : KeptRows) → Contains (fresh_of views) name
      → KeepsFresh (kept_of db history views) (t.show name) (Rows rows) (kept_of db history views)
  fresh_keeps rows there other query asked = (
    λ fresh. inr (fresh, none_between db db query refl),
    λ h. elim h [
      | inl own ↦ subst (Contains (fresh_of views)) own.0 there
      | inr old ↦ old.0
    ],
  )
