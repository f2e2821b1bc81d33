-- From each state that can stand a sound statement has a reply, and leaves one that can.
use Rattle.std.proofs.Common.{◌≡◌, ◌⊎◌, ◌↔◌, ℕ, ◌<◌, ◌≤◌, inl, inr, List, [], ◌∷◌, ◌++◌, length, All, Option, Some, None, get_or, refl, sym, ap, subst, ◌∙◌, arith}
use Rattle.std.specs.Prelude.{ℤ, pos, negsuc, true, false, MatchOption, IfSome}
use Rattle.std.specs.Map.{remove_entry}
use Rattle.std.specs.BTreeMap.{insert_entry, is_at}
use Rattle.lore_base.specs.Bytes.{bytes_cmp}
use Rattle.std.proofs.lemmas.Bool.{cases_lt}
use Rattle.std.proofs.lemmas.List.{length_push}
use Rattle.std.proofs.lemmas.List.Elements.{All-push, All-nil}
use Rattle.std.proofs.lemmas.Option.{slice_get_within, slice_get-get_or, get_or_from_slice_get}
use Rattle.lore_base.specs.Databases.{Database, IsValid, IsRestorable}
use Rattle.lore_base.specs.Verdicts.{IsClear}
use Rattle.lore_base.proofs.ToldLaws.{IsTold, told_same, told_not, told_both, told_either}
use Rattle.lore_base.proofs.VerdictLaws.{clear_left, clear_right, clear_same}
use Rattle.guide_laws.proofs.TargetSetLaws.{target_sets_exist}
use Rattle.lorel_trees.specs.Trees as t
use Rattle.lorel_trees.specs.Trees.{SelectTree, StatementTree, select}
use Rattle.lorel_trees.specs.Formed.{IsFormedStatement}
use Rattle.lorel_trees.proofs.FormLaws.{sound_statement}
use Rattle.doem_history.specs.Moments.{Moment, moment_of, IsInOrder, IsFull}
use Rattle.doem_history.proofs.HistoryLaws.{one_history_weight}
use Rattle.doem_history.proofs.WeightLaws.{some_history_weight}
use Rattle.statements.specs.Types.{Refusal, VIEWS}
use Rattle.lore_db.specs.Types.{Reply, Changed, Rows, Past, Lines, Refused}
use Rattle.statements.specs.Types.refusals
use Rattle.statements.specs.Forms.{MakesChanges, IsChanging, IsOfSession}
use Rattle.statements.specs.Made.{IsMade}
use Rattle.statements.specs.Statements.{Cause, cause_order, Counts}
use Rattle.statements.specs.inside.Stages.{fit_order}
use Rattle.statements.proofs.CauseLaws.{sizes, late}
use Rattle.statements.proofs.RangeLaws.{no_count, told_changing, in_range}
use Rattle.view_laws.specs.Freshness.{query_in}
use Rattle.lore_db.specs.States.{IsOneTooMany, LacksView, AnswersNow}
use Rattle.lore_db.specs.States.{State, present, IsMoment, HasMoment, AreTwoMoments, database_at, OfKeptMoments, AsksHistory, AsksNoMoment, IsRestore, WouldBeFullAfter, WouldBeFull, CauseAtMoment, AnswersAt, TellsChanges}
use Rattle.lore_db.specs.States.{HistoryCause, PlainCause, StateCause, state_order, AppendsMoment}
use Rattle.lore_db.proofs.StateLaws.{of_none, of_some, of_kept, plain_never, plain_cause, last_order}
use Rattle.lore_db.proofs.ViewingLaws.{show_cause, of_view}
use Rattle.lore_db.proofs.PerformLaws.{plain_does, one_made, still_present}
use Rattle.lore_db.proofs.AskLaws.{one_number, at_cause}
use Rattle.change_lines.proofs.LineLaws.{some_lines}
use Rattle.reply_laws.specs.Laws.{AreKeptOf, CanStand, SomePerformance, PerformsAlways}
use Rattle.reply_laws.proofs.FullLaws.{full_told}
use Rattle.reply_laws.proofs.GrowLaws.{Grows, grown, all_later, all_ordered}
use Rattle.reply_laws.proofs.TurnLaws.{AreTold, some_verdict, told_of_none, told_append}
use Rattle.reply_laws.proofs.SomeReplyLaws.{text_order, row_order, limit_order, told_text, told_still, told_order, some_read, some_changed, some_performed}

-- ---- causes of two kinds, and the same causes in other words
abbrev AreAllTold : (Refusal → Type 0) → List Refusal → Type 0
AreAllTold Has [] = Unit {0}
AreAllTold Has (next ∷ others) = IsTold (Has next) × AreAllTold Has others

module _ (Beside Applies : Refusal → Type 0) where
  told_more : (order : List Refusal) → AreAllTold Beside order → AreTold Applies order → AreTold (λ refusal. Beside refusal ⊎ Applies refusal) order
  told_more [] beside told = tt
  told_more (next ∷ others) beside told =
      (told_either beside.0 told.0, λ none. told_more others beside.1 (told.1 (λ h. none (inr h))))

  clear_less : (order : List Refusal) → IsClear (λ refusal. Beside refusal ⊎ Applies refusal) order → IsClear Applies order
  clear_less [] clear = tt
  clear_less (next ∷ others) clear = (λ h. clear.0 (inr h), clear_less others clear.1)

told_as : (Applies Holds : Refusal → Type 0) → ((refusal : Refusal) → Applies refusal ↔ Holds refusal) → (order : List Refusal) → AreTold Applies order
    → AreTold Holds order
told_as Applies Holds same [] told = tt
told_as Applies Holds same (next ∷ others) told =
    (told_same (same next).0 (same next).1 told.0, λ none. told_as Applies Holds same others (told.1 (λ h. none ((same next).0 h))))

-- ---- what is told of moments
order_at : (moments : List Moment) (given : ℤ) (number : ℕ) (moment : Moment) → All IsInOrder moments → IsMoment moments given number moment → IsInOrder moment
order_at moments given number moment ordered is =
    subst IsInOrder (get_or_from_slice_get moments number moment moment is.1) (ordered number moment (slice_get_within moments number moment is.1))

told_moment : (moments : List Moment) (given : ℤ) → IsTold (HasMoment moments given)
told_moment moments (pos number) = elim (cases_lt number (length moments)) [
  | inl within ↦ (let other : Moment = moment_of [] [] [] in inl (number, get_or moments number other, (refl, slice_get-get_or moments number other within)))
  | inr beyond ↦ inr (λ h.
      let same = one_number (pos number) number h.0 refl h.2.0 in
      let within = slice_get_within moments h.0 h.1 h.2.1 in
      absurd (omega (arith, same, within, beyond)))
]
told_moment moments (negsuc number) = inr (λ h. no_count number h.0 h.2.0)

told_two : (moments : List Moment) (first last : ℤ) → IsTold (AreTwoMoments moments first last)
told_two moments first last = elim (told_moment moments first) [
  | inr none ↦ inr (λ (two : AreTwoMoments moments first last). none (two.from, two.before, two.first_is))
  | inl begun ↦ elim (told_moment moments last) [
    | inr none ↦ inr (λ (two : AreTwoMoments moments first last). none (two.to, two.after, two.last_is))
    | inl ended ↦ elim (cases_lt ended.0 begun.0) [
      | inl behind ↦ inr (λ (two : AreTwoMoments moments first last).
          let from = one_number first two.from begun.0 two.first_is.0 begun.2.0 in
          let to = one_number last two.to ended.0 two.last_is.0 ended.2.0 in
          let order = two.order in
          absurd (omega (arith, from, to, order, behind)))
      | inr order ↦ inl (record {
        from = begun.0;
        to = ended.0;
        before = begun.1;
        after = ended.1;
        first_is = begun.2;
        last_is = ended.2;
        order = omega (arith, order);
      })
    ]
  ]
]

-- ---- what is told of the history
told_of : (history : Option (List Moment)) (Has : List Moment → Type 0) → ((moments : List Moment) → IsTold (Has moments)) → IsTold (MatchOption history ⊥ Has)
told_of None Has told = inr (λ h. h)
told_of (Some moments) Has told = told moments

told_absent : (history : Option (List Moment)) → IsTold (history ≡ None)
told_absent None = inl refl
told_absent (Some moments) = inr (λ same. cc)

told_asks : (statement : StatementTree) → IsTold (AsksHistory statement)
told_asks (t.select_at given query) = inl tt
told_asks (t.changes first last) = inl tt
told_asks statement = inr (λ h. h)

told_beyond : (moments : List Moment) (statement : StatementTree) → IsTold (AsksNoMoment moments statement)
told_beyond moments (t.select_at given query) = told_not (told_moment moments given)
told_beyond moments (t.changes first last) = told_not (told_two moments first last)
told_beyond moments statement = inr (λ h. h)

told_restore : (statement : StatementTree) → IsTold (IsRestore statement)
told_restore (t.restore text) = inl tt
told_restore statement = inr (λ h. h)

-- of the causes that a database can have, the history has one
told_beside : (state : State) (statement : StatementTree) → AreAllTold (HistoryCause state statement) cause_order
told_beside state statement = (
  inr (λ h. h),
  (
    inr (λ h. h),
    (
      inr (λ h. h),
      (
        inr (λ h. h),
        (
          inr (λ h. h),
          (
            inr (λ h. h),
            (
              inr (λ h. h),
              (
                inr (λ h. h),
                (
                  inr (λ h. h),
                  (
                    inr (λ h. h),
                    (
                      inr (λ h. h),
                      (
                        inr (λ h. h),
                        (
                          inr (λ h. h),
                          (
                            inr (λ h. h),
                            (
                              inr (λ h. h),
                              (
                                inr (λ h. h),
                                (
                                  inr (λ h. h),
                                  (
                                    inr (λ h. h),
                                    (
                                      inr (λ h. h),
                                      (told_of state.history (λ moments. IsRestore statement) (λ moments. told_restore statement), (inr (λ h. h), tt)),
                                    ),
                                  ),
                                ),
                              ),
                            ),
                          ),
                        ),
                      ),
                    ),
                  ),
                ),
              ),
            ),
          ),
        ),
      ),
    ),
  ),
)

-- ---- what is told of the database that a statement is executed on
select_told : (db : Database) (query : SelectTree) → AreTold (Cause db (select query)) cause_order
select_told db query =
    told_append (Cause db (select query)) text_order (row_order ++ limit_order) (told_text db (select query))
    (λ clear. told_still db (select query) (λ h. h) clear)

module _ (state : State) (given : ℤ) (query : SelectTree) where
  past_told : (history : Option (List Moment)) → state.history ≡ history → AreTold (PlainCause state (t.select_at given query)) cause_order
  past_told None none =
      told_of_none (PlainCause state (t.select_at given query))
      (λ refusal h. subst (λ (o : Option (List Moment)). MatchOption o ⊥ (CauseAtMoment state.db given query refusal)) none h) cause_order
  past_told (Some moments) kept = elim (told_moment moments given) [
    | inl has ↦ told_as (Cause (database_at state.db has.1) (select query)) (PlainCause state (t.select_at given query))
        (at_cause state moments kept given query has.0 has.1 has.2) cause_order (select_told (database_at state.db has.1) query)
    | inr none ↦ told_of_none (PlainCause state (t.select_at given query)) (λ refusal h.
        let found = of_kept state.history (CauseAtMoment state.db given query refusal) moments kept h in
        none (found.0, found.1, found.2)) cause_order
  ]

-- of a view what is told of its select
shown_told : (state : State) (name : List ℕ) (query : Option SelectTree) → query_in state.views name ≡ query
    → AreTold (PlainCause state (t.show name)) cause_order
shown_told state name None none =
    told_of_none (PlainCause state (t.show name))
    (λ refusal h. subst (λ (o : Option SelectTree). MatchOption o ⊥ (λ own. Cause state.db (select own) refusal)) none h) cause_order
shown_told state name (Some query) there =
    told_as (Cause state.db (select query)) (PlainCause state (t.show name)) (show_cause state name query there) cause_order (select_told state.db query)

told_plain : (state : State) (statement : StatementTree) → IsValid state.db → IsFormedStatement statement → AreTold (PlainCause state statement) cause_order
told_plain state (t.history on) valid formed = told_of_none (PlainCause state (t.history on)) (λ refusal h. h) cause_order
told_plain state (t.changes first last) valid formed = told_of_none (PlainCause state (t.changes first last)) (λ refusal h. h) cause_order
told_plain state (t.watch name query) valid formed = select_told state.db query
told_plain state (t.unwatch name) valid formed = told_of_none (PlainCause state (t.unwatch name)) (λ refusal h. h) cause_order
told_plain state (t.show name) valid formed = shown_told state name (query_in state.views name) refl
told_plain state (t.select_at given query) valid formed = past_told state given query state.history refl
told_plain state statement valid formed = told_order state.db valid statement formed

-- ---- whether a history is full
present_ordered : (db : Database) → IsValid db → IsInOrder (present db)
present_ordered db valid =
    let ordered = valid.restorable.rooted.well_formed.ordered in
    record { names = ordered.names_ascend; objects = ordered.objects_ascend; edges = ordered.edges_ascend }

more_ordered : (moments : List Moment) (db : Database) → All IsInOrder moments → IsValid db → All IsInOrder (moments ++ present db ∷ [])
more_ordered moments db ordered valid = All-push IsInOrder moments (present db) ordered (present_ordered db valid)

more_some : (moments : List Moment) (after : Moment) → 0 < length (moments ++ after ∷ [])
more_some moments after = let long = length_push moments after in omega (arith, long)

told_full : (moments : List Moment) (db : Database) → All IsInOrder moments → IsValid db → IsTold (IsFull (moments ++ present db ∷ []))
told_full moments db ordered valid =
    full_told one_history_weight some_history_weight (moments ++ present db ∷ []) (more_ordered moments db ordered valid) (more_some moments (present db))

known_clear : (state : State) (statement : StatementTree) → (IsOfSession statement → ⊥) → IsClear (PlainCause state statement) cause_order
    → IsClear (Cause state.db statement) cause_order
known_clear state statement plain clear =
    clear_same (PlainCause state statement) (Cause state.db statement)
    (λ refusal. ((plain_cause state statement plain refusal).1, (plain_cause state statement plain refusal).0)) cause_order clear

full_over : (state : State) (statement : StatementTree) → CanStand state → IsFormedStatement statement → (IsOfSession statement → ⊥)
    → IsClear (PlainCause state statement) cause_order
    → IsTold (OfKeptMoments state (WouldBeFullAfter state.db statement))
full_over state statement stands formed plain clear = elim (told_changing statement) [
  | inr still ↦ inr (λ h. of_none state.history (WouldBeFullAfter state.db statement) (λ moments found. still found.1.changing) h)
  | inl changing ↦
      (let known = known_clear state statement plain clear in
      let done = some_changed state.db stands.valid statement formed changing known in
      let made : IsMade state.db statement done.1 = record { changing = changing; clear = known; rows = done.2.0.0; are = done.2.0.1; is = done.2.0.2 } in
      over done.1 made done.3 state.history stands.moments)
]
  where
    over : (after : Database) → IsMade state.db statement after → IsValid after → (history : Option (List Moment))
        → IfSome history (AreKeptOf state.db)
        → IsTold (MatchOption history ⊥ (WouldBeFullAfter state.db statement))
    over after made valid None kept = inr (λ h. h)
    over after made valid (Some moments) kept =
        told_same (λ full. (after, made, full))
        (λ (found : WouldBeFullAfter state.db statement moments).
        subst (λ (d : Database). IsFull (moments ++ present d ∷ [])) (one_made state.db statement after found.0 made found.1) found.2)
        (told_full moments after (all_ordered state.db moments kept.each) valid)

no_full : (state : State) (statement : StatementTree) → (MakesChanges statement → ⊥)
    → IsTold (OfKeptMoments state (WouldBeFullAfter state.db statement))
no_full state statement still = inr (λ h. of_none state.history (WouldBeFullAfter state.db statement) (λ moments found. still found.1.changing) h)

told_full_then : (state : State) (statement : StatementTree) → CanStand state → IsFormedStatement statement
    → IsClear (PlainCause state statement) cause_order → IsTold (WouldBeFull state statement)
told_full_then state (t.history true) stands formed clear = told_full [] state.db (All-nil IsInOrder) stands.valid
told_full_then state (t.history false) stands formed clear = no_full state (t.history false) (λ h. h)
told_full_then state (t.select_at given query) stands formed clear = no_full state (t.select_at given query) (λ h. h)
told_full_then state (t.changes first last) stands formed clear = no_full state (t.changes first last) (λ h. h)
told_full_then state (t.watch name query) stands formed clear = no_full state (t.watch name query) (λ h. h)
told_full_then state (t.unwatch name) stands formed clear = no_full state (t.unwatch name) (λ h. h)
told_full_then state (t.show name) stands formed clear = no_full state (t.show name) (λ h. h)
told_full_then state statement stands formed clear = full_over state statement stands formed (λ h. h) clear

-- ---- what is told of views
told_no_query : (query : Option SelectTree) → IsTold (query ≡ None)
told_no_query None = inl refl
told_no_query (Some query) = inr (λ same. cc)

told_many : (state : State) (statement : StatementTree) → IsTold (IsOneTooMany state statement)
told_many state (t.watch name query) =
    told_both (told_no_query (query_in state.views name)) (elim (cases_lt (length state.views) VIEWS) [
      | inl fewer ↦ inr (λ (many : VIEWS ≤ length state.views). absurd (omega (arith, fewer, many)))
      | inr many ↦ inl many
    ])
told_many state statement = inr (λ h. h)

told_lacking : (state : State) (statement : StatementTree) → IsTold (LacksView state statement)
told_lacking state (t.unwatch name) = told_no_query (query_in state.views name)
told_lacking state (t.show name) = told_no_query (query_in state.views name)
told_lacking state statement = inr (λ h. h)

-- ---- all causes in their order
told_state : (state : State) (statement : StatementTree) → CanStand state → IsFormedStatement statement → AreTold (StateCause state statement) state_order
told_state state statement stands formed = (
  told_either (told_both (told_asks statement) (told_absent state.history)) (inr (plain_never state statement refusals.NoHistory (λ db other h. h))),
  λ there. (
    told_either (told_of state.history (λ moments. AsksNoMoment moments statement) (λ moments. told_beyond moments statement))
        (inr (plain_never state statement refusals.MomentRange (λ db other h. h))),
    λ within. told_append (StateCause state statement) cause_order last_order
        (told_more (HistoryCause state statement) (PlainCause state statement) cause_order (told_beside state statement)
        (told_plain state statement stands.valid formed))
        (λ clear. (
          told_either (told_full_then state statement stands formed (clear_less (HistoryCause state statement) (PlainCause state statement) cause_order clear))
              (inr (plain_never state statement refusals.HistoryFull (λ db other h. h))),
          λ light. (
            told_either (told_many state statement) (inr (plain_never state statement refusals.TooManyViews (λ db other h. h))),
            λ few. (
              told_either (told_lacking state statement) (inr (plain_never state statement refusals.UnknownView (λ db other h. h))),
              λ there. tt,
            ),
          ),
        )),
  ),
)

-- ---- what is done where nothing refuses
-- numbers by which objects are generated are in range then
changing_makes : (db : Database) (statement : StatementTree) → IsClear (Cause db statement) cause_order → IsChanging statement → MakesChanges statement
changing_makes db (t.generate seed count) clear changing =
    in_range db seed count (clear_right (Cause db (t.generate seed count)) (fit_order ++ sizes) late clear).0
changing_makes db statement clear changing = changing

some_counts : (db : Database) → (reply : Reply) × Counts db reply
some_counts db =
    let all = target_sets_exist db.graph.names db.graph.edges in
    (Changed (length db.graph.objects) (length db.graph.edges) (length all.0), (all.0, all.1, refl))

-- the present one more
kept_more : (db : Database) → IsValid db → (moments : List Moment) → All (λ moment. IsRestorable (database_at db moment)) moments
    → AreKeptOf db (moments ++ present db ∷ [])
kept_more db valid moments each = record {
  each = All-push (λ moment. IsRestorable (database_at db moment)) moments (present db) each valid.restorable;
  earlier = moments;
  last = refl;
}

module _ (state : State) (stands : CanStand state) where
  some_kept : (history : Option (List Moment)) → state.history ≡ history → (state.history ≡ None → ⊥)
      → (moments : List Moment) × (state.history ≡ Some moments) × All IsInOrder moments
  some_kept None none there = absurd (there none)
  some_kept (Some moments) kept there =
      let are : AreKeptOf state.db moments = subst (λ (o : Option (List Moment)). IfSome o (AreKeptOf state.db)) kept stands.moments in
      (moments, kept, all_ordered state.db moments are.each)

  module _ (given : ℤ) (query : SelectTree) (clear : IsClear (StateCause state (t.select_at given query)) state_order) where
    some_past : SomePerformance state (t.select_at given query)
    some_past =
        let kept = some_kept state.history refl (λ none. clear.0 (inl (tt, none))) in
        elim (told_moment kept.0 given) [
          | inr none ↦ absurd (clear.1.0 (inl (of_some state.history (λ all. AsksNoMoment all (t.select_at given query)) kept.0 kept.1 none)))
          | inl has ↦
              (let past = database_at state.db has.1 in
              let same = at_cause state kept.0 kept.1 given query has.0 has.1 has.2 in
              let found = some_read past (select query) (λ h. clear.1.1.1.0 (inr ((same refusals.UnknownName).0 h)))
              (λ h. clear.1.1.1.1.0 (inr ((same refusals.UnknownVariable).0 h))) query refl in
              record {
                reply = Past has.0 found.0;
                after = state;
                performed = inl (
                  clear,
                  (
                    refl,
                    of_some state.history (AnswersAt state.db given query (Past has.0 found.0)) kept.0 kept.1 (record {
                      number = has.0;
                      moment = has.1;
                      is = has.2;
                      rows = found.0;
                      answers = found.1;
                      replied = refl;
                    }),
                  ),
                );
                stands = stands;
              })
        ]

  module _ (first last : ℤ) (clear : IsClear (StateCause state (t.changes first last)) state_order) where
    some_differing : SomePerformance state (t.changes first last)
    some_differing =
        let kept = some_kept state.history refl (λ none. clear.0 (inl (tt, none))) in
        elim (told_two kept.0 first last) [
          | inr none ↦ absurd (clear.1.0 (inl (of_some state.history (λ all. AsksNoMoment all (t.changes first last)) kept.0 kept.1 none)))
          | inl two ↦
              (let found = some_lines state.db.labels two.before two.after (order_at kept.0 first two.from two.before kept.2 two.first_is)
              (order_at kept.0 last two.to two.after kept.2 two.last_is) in
              record {
                reply = Lines found.0;
                after = state;
                performed = inl (clear, (refl, of_some state.history (TellsChanges state.db first last (Lines found.0)) kept.0 kept.1 (record { two = two; lines = found.0; are = found.1; replied = refl })));
                stands = stands;
              })
        ]

  -- a view that is shown
  some_shown : (name : List ℕ) → IsClear (StateCause state (t.show name)) state_order → (query : Option SelectTree)
      → query_in state.views name ≡ query → SomePerformance state (t.show name)
  some_shown name clear None none =
      let last = clear_right (StateCause state (t.show name)) cause_order last_order clear.1.1 in
      absurd (last.1.1.0 (inl none))
  some_shown name clear (Some query) there =
      let same = show_cause state name query there in
      let found = some_read state.db (select query) (λ h. clear.1.1.1.0 (inr ((same refusals.UnknownName).0 h)))
      (λ h. clear.1.1.1.1.0 (inr ((same refusals.UnknownVariable).0 h))) query refl in
      record {
        reply = Rows found.0;
        after = state;
        performed = inl (clear, (refl, of_view state name query there (AnswersNow state.db (Rows found.0)) (found.0, refl, found.1)));
        stands = stands;
      }

  -- the history goes on; where no moment is appended, the last one is still the present one
  some_gone : (statement : StatementTree) (db : Database) → IsValid db → ((IsRestore statement → ⊥) → Grows state.db db)
      → ((MakesChanges statement → ⊥) → (IsRestore statement → ⊥) → present db ≡ present state.db) → (history : Option (List Moment))
      → (MatchOption history ⊥ (λ moments. IsRestore statement) → ⊥) → IfSome history (AreKeptOf state.db)
      → (after : State) × AppendsMoment (record { db = state.db; history = history; views = state.views }) statement db after × CanStand after
  some_gone statement db valid grows same None stays kept =
      (record { db = db; history = None; views = state.views }, refl, record { valid = valid; moments = tt })
  some_gone statement db valid grows same (Some moments) stays kept =
      let each = all_later state.db db moments (grows stays) valid kept.each in
      elim (told_changing statement) [
        | inl changing ↦ (
          record { db = db; history = Some (moments ++ present db ∷ []); views = state.views },
          inl (changing, refl),
          record { valid = valid; moments = kept_more db valid moments each },
        )
        | inr still ↦ (
          record { db = db; history = Some moments; views = state.views },
          inr (still, refl),
          record {
            valid = valid;
            moments = record {
              each = each;
              earlier = kept.earlier;
              last = kept.last ∙ ap (λ (moment : Moment). kept.earlier ++ moment ∷ []) (sym (same still stays));
            };
          },
        )
      ]

  some_plain : (statement : StatementTree) → IsFormedStatement statement → (IsOfSession statement → ⊥) → IsClear (StateCause state statement) state_order
      → SomePerformance state statement
  some_plain statement formed plain clear =
      let front = clear_left (StateCause state statement) cause_order last_order clear.1.1 in
      let known = known_clear state statement plain (clear_less (HistoryCause state statement) (PlainCause state statement) cause_order front) in
      let done = some_performed state.db stands.valid statement formed plain known in
      let same : (MakesChanges statement → ⊥) → (IsRestore statement → ⊥) → present done.1 ≡ present state.db = λ still stays.
      still_present state.db statement (λ changing. still (changing_makes state.db statement known changing)) stays done.0 done.1 (inl (known, done.2)) in
      let late_clear = clear_right (StateCause state statement) (fit_order ++ sizes) late front in
      let grows : (IsRestore statement → ⊥) → Grows state.db done.1 = λ stays. grown state.db statement done.0 done.1 stays done.2 in
      let gone = some_gone statement done.1 done.3 grows same state.history (λ h. late_clear.1.0 (inl h)) stands.moments in
      record {
        reply = done.0;
        after = gone.0;
        performed = inl (clear, plain_does state statement done.0 done.1 gone.0 plain done.2 gone.1);
        stands = gone.2;
      }

  some_done : (statement : StatementTree) → IsFormedStatement statement → IsClear (StateCause state statement) state_order → SomePerformance state statement
  some_done (t.history true) formed clear = let counts = some_counts state.db in record {
    reply = counts.0;
    after = record state { history = Some (present state.db ∷ []) };
    performed = inl (clear, (counts.1, refl));
    stands = record {
      valid = stands.valid;
      moments = kept_more state.db stands.valid [] (All-nil (λ moment. IsRestorable (database_at state.db moment)));
    };
  }
  some_done (t.history false) formed clear = let counts = some_counts state.db in record {
    reply = counts.0;
    after = record state { history = None };
    performed = inl (clear, (counts.1, refl));
    stands = record { valid = stands.valid; moments = tt };
  }
  some_done (t.select_at given query) formed clear = some_past given query clear
  some_done (t.changes first last) formed clear = some_differing first last clear
  some_done (t.watch name query) formed clear = let counts = some_counts state.db in record {
    reply = counts.0;
    after = record state { views = insert_entry bytes_cmp state.views name query };
    performed = inl (clear, (counts.1, refl));
    stands = record { valid = stands.valid; moments = stands.moments };
  }
  some_done (t.unwatch name) formed clear = let counts = some_counts state.db in record {
    reply = counts.0;
    after = record state { views = remove_entry (is_at (bytes_cmp name)) state.views };
    performed = inl (clear, (counts.1, refl));
    stands = record { valid = stands.valid; moments = stands.moments };
  }
  some_done (t.show name) formed clear = some_shown name clear (query_in state.views name) refl
  some_done statement formed clear = some_plain statement formed (λ h. h) clear

pub performs_always : PerformsAlways
performs_always before statement stands sound =
    let formed = sound_statement statement sound in
    elim (some_verdict (StateCause before statement) state_order (told_state before statement stands formed)) [
      | inl clear ↦ some_done before stands statement formed clear
      | inr first ↦ record {
        reply = Refused first.0;
        after = before;
        performed = inr (first.0, first.1, refl, refl);
        stands = stands;
      }
    ]
