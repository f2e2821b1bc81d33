-- What the statements on views answer and leave of a state.
use Rattle.std.proofs.Common.{◌≡◌, ℕ, inl, inr, List, [], ◌∷◌, Option, Some, None, refl, sym, subst, ◌∙◌}
use Rattle.std.specs.Prelude.{◌↔◌, MatchOption}
use Rattle.std.specs.Map.{remove_entry}
use Rattle.std.specs.BTreeMap.{insert_entry, is_at}
use Rattle.lore_base.specs.Bytes.{bytes_cmp}
use Rattle.lore_base.specs.Databases.{Database}
use Rattle.lore_base.specs.Verdicts.{IsFirst, IsClear, IsToldBy}
use Rattle.lore_base.proofs.VerdictLaws.{clear_same, first_same}
use Rattle.lorel_trees.specs.Trees as t
use Rattle.lorel_trees.specs.Trees.{SelectTree, StatementTree}
use Rattle.lorel_bind.specs.Answers.{IsAnswer}
use Rattle.view_laws.specs.Laws.{IsFresh}
use Rattle.view_laws.specs.Freshness.{query_in}
use Rattle.statements.specs.Types.{Cell, Refusal}
use Rattle.lore_db.specs.Types.{Reply, Rows, Refused}
use Rattle.statements.specs.Types.refusals
use Rattle.statements.specs.Statements.{Cause, cause_order, Counts, Executes}
use Rattle.statements.proofs.ExecutionLaws.{select_performs}
use Rattle.statements.proofs.ReadLaws.{few_rows}
use Rattle.lore_db.specs.States.{State, OfView, AsksNoMoment, IsRestore, WouldBeFullAfter, WouldBeFull, IsOneTooMany, PlainCause, StateCause, state_order}
use Rattle.lore_db.specs.States.{AnswersNow, Performs}
use Rattle.lore_db.proofs.StateLaws.{of_none, IsAdmitted, clear_all, told_plain, first_many, first_lacking}

-- ---- a select that is answered
rows_differ : (rows others : List (List Cell)) → Rows rows ≡ Rows others → rows ≡ others
rows_differ rows others same = cc

not_refused : (rows : List (List Cell)) (refusal : Refusal) → Rows rows ≡ Refused refusal → ⊥
not_refused rows refusal same = cc

module _ (db : Database) (query : SelectTree) (rows : List (List Cell)) where
  -- nothing refuses it
  pub rows_clear : Executes db (t.select query) (Rows rows) db → IsClear (Cause db (t.select query)) cause_order
  rows_clear (inl (clear, does)) = clear
  rows_clear (inr (refusal, first, (replied, same))) = absurd (not_refused rows refusal replied)

  rows_are : Executes db (t.select query) (Rows rows) db → IsAnswer db query rows
  rows_are (inl (clear, (same, (own, replied, answer)))) = subst (IsAnswer db query) (sym (rows_differ rows own replied)) answer
  rows_are (inr (refusal, first, (replied, same))) = absurd (not_refused rows refusal replied)

  -- so its rows are fresh
  pub rows_fresh : Executes db (t.select query) (Rows rows) db → IsFresh db query rows
  rows_fresh executed =
      let clear = rows_clear executed in
      record {
        accepted = (
          λ h. clear.1.0 (inr h),
          (λ h. clear.1.1.0 h, (λ h. clear.1.1.1.0 h, (λ h. clear.1.1.1.1.0 h, tt))),
        );
        answer = rows_are executed;
        few = λ much. clear.1.1.1.1.1.1.1.0 (rows, rows_are executed, much);
      }

  -- and rows that are fresh are what it answers
  pub fresh_executes : IsFresh db query rows → Executes db (t.select query) (Rows rows) db
  fresh_executes fresh =
      let accepted = fresh.accepted in
      select_performs db query rows
      (accepted.0, (accepted.1.0, (accepted.1.1.0, (accepted.1.1.1.0, (few_rows db query rows fresh.answer fresh.few, tt))))) fresh.answer

-- ---- what no history has a say in
watch_admitted : (state : State) (name : List ℕ) (query : SelectTree) → IsAdmitted state (t.watch name query)
watch_admitted state name query = record {
  none = λ h. h.0;
  range = λ h. of_none state.history (λ moments. AsksNoMoment moments (t.watch name query)) (λ moments beyond. beyond) h;
  fresh = λ h. of_none state.history (λ moments. IsRestore (t.watch name query)) (λ moments restores. restores) h;
}

unwatch_admitted : (state : State) (name : List ℕ) → IsAdmitted state (t.unwatch name)
unwatch_admitted state name = record {
  none = λ h. h.0;
  range = λ h. of_none state.history (λ moments. AsksNoMoment moments (t.unwatch name)) (λ moments beyond. beyond) h;
  fresh = λ h. of_none state.history (λ moments. IsRestore (t.unwatch name)) (λ moments restores. restores) h;
}

show_admitted : (state : State) (name : List ℕ) → IsAdmitted state (t.show name)
show_admitted state name = record {
  none = λ h. h.0;
  range = λ h. of_none state.history (λ moments. AsksNoMoment moments (t.show name)) (λ moments beyond. beyond) h;
  fresh = λ h. of_none state.history (λ moments. IsRestore (t.show name)) (λ moments restores. restores) h;
}

clear_never : (Applies : Refusal → Type 0) → ((refusal : Refusal) → Applies refusal → ⊥) → (order : List Refusal) → IsClear Applies order
clear_never Applies none [] = tt
clear_never Applies none (next ∷ others) = (none next, clear_never Applies none others)

-- ---- a select is kept
module _ (state : State) (name : List ℕ) (query : SelectTree) where
  abbrev pub watched : StatementTree
  watched = t.watch name query

  watch_light : WouldBeFull state watched → ⊥
  watch_light full = of_none state.history (WouldBeFullAfter state.db watched) (λ moments found. found.1.changing) full

  pub watch_performs : (rows : List (List Cell)) (reply : Reply) → Executes state.db (t.select query) (Rows rows) state.db
      → (IsOneTooMany state watched → ⊥) → Counts state.db reply
      → Performs state watched reply (record state { views = insert_entry bytes_cmp state.views name query })
  watch_performs rows reply executed few counts =
      inl (
        clear_all state watched (watch_admitted state name query) (record { few = few; there = λ h. h })
            (rows_clear state.db query rows executed) watch_light,
        (counts, refl),
      )

  pub watch_many : (rows : List (List Cell)) → Executes state.db (t.select query) (Rows rows) state.db → IsOneTooMany state watched
      → IsFirst (StateCause state watched) state_order refusals.TooManyViews
  watch_many rows executed many =
      first_many state watched (watch_admitted state name query) (rows_clear state.db query rows executed) watch_light many

  pub watch_told : (told : Option Refusal) → IsToldBy (Cause state.db (t.select query)) cause_order told
      → IsToldBy (StateCause state watched) state_order told
  watch_told told h = told_plain state watched (watch_admitted state name query) told h

-- ---- a view is taken away
module _ (state : State) (name : List ℕ) where
  abbrev pub unwatched : StatementTree
  unwatched = t.unwatch name

  unwatch_light : WouldBeFull state unwatched → ⊥
  unwatch_light full = of_none state.history (WouldBeFullAfter state.db unwatched) (λ moments found. found.1.changing) full

  unwatch_clear : IsClear (PlainCause state unwatched) cause_order
  unwatch_clear = clear_never (PlainCause state unwatched) (λ refusal h. h) cause_order

  pub unwatch_performs : (query : SelectTree) → query_in state.views name ≡ Some query → (reply : Reply) → Counts state.db reply
      → Performs state unwatched reply (record state { views = remove_entry (is_at (bytes_cmp name)) state.views })
  unwatch_performs query there reply counts =
      inl (
        clear_all state unwatched (unwatch_admitted state name)
            (record { few = λ h. h; there = λ lacks. absurd (apart query (sym there ∙ lacks)) })
            unwatch_clear unwatch_light,
        (counts, refl),
      )
    where
      apart : (own : SelectTree) → Some own ≡ None → ⊥
      apart own same = cc

  pub unwatch_lacks : query_in state.views name ≡ None → IsFirst (StateCause state unwatched) state_order refusals.UnknownView
  unwatch_lacks none =
      first_lacking state unwatched (unwatch_admitted state name) unwatch_clear unwatch_light (λ h. h) none

-- ---- a view is shown
module _ (state : State) (name : List ℕ) where
  abbrev pub shown : StatementTree
  shown = t.show name

  show_light : WouldBeFull state shown → ⊥
  show_light full = of_none state.history (WouldBeFullAfter state.db shown) (λ moments found. found.1.changing) full

  pub show_lacks : query_in state.views name ≡ None → IsFirst (StateCause state shown) state_order refusals.UnknownView
  show_lacks none =
      first_lacking state shown (show_admitted state name) (clear_never (PlainCause state shown) (λ refusal. none_for refusal) cause_order)
      show_light (λ h. h) none
    where
      none_for : (refusal : Refusal) → OfView state name (λ query. Cause state.db (t.select query) refusal) → ⊥
      none_for refusal h = subst (λ (o : Option SelectTree). MatchOption o ⊥ (λ query. Cause state.db (t.select query) refusal)) none h

  module _ (query : SelectTree) (there : query_in state.views name ≡ Some query) where
    pub of_view : (Has : SelectTree → Type 0) → Has query → OfView state name Has
    of_view Has has = subst (λ (o : Option SelectTree). MatchOption o ⊥ Has) (sym there) has

    pub show_cause : (refusal : Refusal) → Cause state.db (t.select query) refusal ↔ PlainCause state shown refusal
    show_cause refusal = (
      of_view (λ own. Cause state.db (t.select own) refusal),
      λ h. subst (λ (o : Option SelectTree). MatchOption o ⊥ (λ own. Cause state.db (t.select own) refusal)) there h,
    )

    pub show_performs : (rows : List (List Cell)) → Executes state.db (t.select query) (Rows rows) state.db → Performs state shown (Rows rows) state
    show_performs rows executed =
        inl (
          clear_all state shown (show_admitted state name) (record { few = λ h. h; there = λ lacks. absurd (apart query (sym there ∙ lacks)) })
              (clear_same (Cause state.db (t.select query)) (PlainCause state shown) show_cause cause_order (rows_clear state.db query rows executed)) show_light,
          (refl, of_view (AnswersNow state.db (Rows rows)) (rows, refl, (rows_fresh state.db query rows executed).answer)),
        )
      where
        apart : (own : SelectTree) → Some own ≡ None → ⊥
        apart own same = cc

    pub show_told : (told : Option Refusal) → IsToldBy (Cause state.db (t.select query)) cause_order told
        → IsToldBy (StateCause state shown) state_order told
    show_told None h = tt
    show_told (Some refusal) h =
        told_plain state shown (show_admitted state name) (Some refusal)
        (first_same (Cause state.db (t.select query)) (PlainCause state shown) show_cause cause_order refusal h)
