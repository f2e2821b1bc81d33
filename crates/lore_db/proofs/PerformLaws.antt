-- What statements answer and leave of a state: those that change nothing that a history tells, those that make changes, and
-- those that keep a history.
use Rattle.std.proofs.Common.{◌≡◌, ◌⊎◌, inl, inr, List, [], ◌∷◌, ◌++◌, Option, Some, None, Result, Ok, Err, IfOk, refl, sym, ap, subst}
use Rattle.std.specs.Prelude.{Bool, true, false, MatchOption, IfErr, IfSome, OnErr}
use Rattle.std.specs.Result.{IsErrAnd}
use Rattle.lore_base.specs.Databases.{Database, OemGraph}
use Rattle.lore_base.specs.Types.{NoMemory}
use Rattle.lore_base.specs.Verdicts.{IsFirst, IsClear, IsToldBy}
use Rattle.lore_base.specs.ChangeSets.{IsAfter}
use Rattle.lore_base.proofs.VerdictLaws.{first_right}
use Rattle.oem_changes.proofs.DeterminedLaws.{one_database_after}
use Rattle.lorel_trees.specs.declared.dump_trees.DumpTree.{DumpTree}
use Rattle.lorel_trees.specs.Trees as t
use Rattle.lorel_trees.specs.Trees.{StatementTree}
use Rattle.doem_history.specs.Moments.{Moment, moment_of, IsFull}
use Rattle.doem_history.specs.Histories.{KeptHistory}
use Rattle.statements.specs.Types.{Oid, Refusal}
use Rattle.lore_db.specs.Types.{Reply}
use Rattle.statements.specs.Types.refusals
use Rattle.statements.specs.Forms.{MakesChanges, IsChanging, IsOfSession}
use Rattle.statements.specs.Made.{IsMade}
use Rattle.statements.specs.Statements.{Cause, cause_order, Counts, Executes}
use Rattle.statements.specs.Statements as databases
use Rattle.statements.specs.Uncounted.{ReadsNoEdge}
use Rattle.statements.specs.Stops.{told, OnReply, IsRepliedTo}
use Rattle.statements.specs.declared.stops.Stop.{Stop}
use Rattle.statements.specs.declared.stops.Stop.TheVariants as stop
use Rattle.statements.specs.inside.Stages.{fit_order}
use Rattle.statements.specs.Effects.{effects}
use Rattle.statements.proofs.CauseLaws.{sizes, one_rows}
use Rattle.statements.proofs.QuietLaws.{nothing_before}
use Rattle.statements.proofs.ExecutionLaws.{made_executes}
use Rattle.view_laws.specs.Freshness.{NamedQuery}
use Rattle.lore_db.specs.States.{State, Kept, present, OfKeptMoments, AsksNoMoment, IsRestore, WouldBeFullAfter, WouldBeFull, HistoryCause, PlainCause, StateCause, state_order}
use Rattle.lore_db.specs.States.{AppendsMoment, Does, Performs, CountsNoStep}
use Rattle.lore_db.specs.inside.Kept.{kept_moments, moments_then, IsFullWith}
use Rattle.lore_db.proofs.StateLaws.{HasViews, last_order, views_plain}
use Rattle.lore_db.proofs.StateLaws.{clear_more, of_none, of_some, makes_changing, changing_plain, IsAdmitted, clear_all, first_full, told_plain}
use Rattle.lore_db.proofs.StateLaws.{admitted_plain, plain_clear, plain_told, changing_admitted}

-- ---- statements that list no changes
-- with them no history is full
pub still_light : (state : State) (statement : StatementTree) → (IsChanging statement → ⊥) → (IsOfSession statement → ⊥) → WouldBeFull state statement → ⊥
still_light state (t.history true) still plain full = plain tt
still_light state (t.history false) still plain full = plain tt
still_light state statement still plain full =
    of_none state.history (WouldBeFullAfter state.db statement) (λ moments found. still (makes_changing statement found.1.changing)) full

-- what is done to the database is all that is done
pub plain_does : (state : State) (statement : StatementTree) (reply : Reply) (db : Database) (after : State) → (IsOfSession statement → ⊥)
    → databases.Fulfils state.db statement reply db → AppendsMoment state statement db after → Does state statement reply after
plain_does state (t.history on) reply db after plain does goes = absurd (plain tt)
plain_does state (t.select_at given query) reply db after plain does goes = absurd (plain tt)
plain_does state (t.changes first last) reply db after plain does goes = absurd (plain tt)
plain_does state (t.watch name query) reply db after plain does goes = absurd (plain tt)
plain_does state (t.unwatch name) reply db after plain does goes = absurd (plain tt)
plain_does state (t.show name) reply db after plain does goes = absurd (plain tt)
plain_does state statement reply db after plain does goes = (db, does, goes)

still_goes : (db : Database) (history : Option (List Moment)) (views : List NamedQuery) (statement : StatementTree) → (IsChanging statement → ⊥)
    → (then : Database)
    → AppendsMoment (record { db = db; history = history; views = views }) statement then (record { db = then; history = history; views = views })
still_goes db None views statement still then = refl
still_goes db (Some moments) views statement still then = inr (λ makes. still (makes_changing statement makes), refl)

-- where no step is counted in a state, none is on the database alone, but for a dump that the history keeps out
pub quiet_reads : (kept : Kept) (statement : StatementTree) → (IsOfSession statement → ⊥) → (HistoryCause kept.state statement refusals.NotFresh → ⊥)
    → CountsNoStep kept statement → ReadsNoEdge kept.state.db statement
quiet_reads kept (t.history on) plain fresh quiet = absurd (plain tt)
quiet_reads kept (t.select_at given query) plain fresh quiet = absurd (plain tt)
quiet_reads kept (t.changes first last) plain fresh quiet = absurd (plain tt)
quiet_reads kept (t.watch name query) plain fresh quiet = absurd (plain tt)
quiet_reads kept (t.unwatch name) plain fresh quiet = absurd (plain tt)
quiet_reads kept (t.show name) plain fresh quiet = absurd (plain tt)
quiet_reads kept (t.restore text) plain fresh quiet = absurd (fresh quiet)
quiet_reads kept statement plain fresh quiet = quiet

-- executed on the database alone, where the history refuses nothing
pub still_performs : (state : State) (statement : StatementTree) → (IsChanging statement → ⊥) → (IsOfSession statement → ⊥)
    → (HistoryCause state statement refusals.NotFresh → ⊥) → (reply : Reply) (db : Database) → Executes state.db statement reply db
    → Performs state statement reply (record state { db = db })
still_performs state statement still plain fresh reply db (inl (clear, does)) =
    inl (
      clear_all state statement (admitted_plain state statement plain fresh) (views_plain state statement plain) (plain_clear state statement plain clear) (still_light state statement still plain),
      plain_does state statement reply db _ plain does (still_goes state.db state.history state.views statement still db),
    )
still_performs state statement still plain fresh reply db (inr (refusal, first, (replied, same))) =
    inr (
      refusal,
      told_plain state statement (admitted_plain state statement plain fresh) (Some refusal) (plain_told state statement plain (Some refusal) first),
      replied,
      ap (λ (d : Database). record state { db = d }) same,
    )

-- a dump isn't restored where a history is kept
module _ (state : State) (text : DumpTree) where
  abbrev Restoring : Refusal → Type 0
  Restoring = StateCause state (t.restore text)

  unasked : Restoring refusals.NoHistory → ⊥
  unasked (inl h) = h.0
  unasked (inr h) = h

  unbounded : Restoring refusals.MomentRange → ⊥
  unbounded (inl h) = of_none state.history (λ moments. AsksNoMoment moments (t.restore text)) (λ moments beyond. beyond) h
  unbounded (inr h) = h

  unlimited : Restoring refusals.LimitRange → ⊥
  unlimited (inl h) = h
  unlimited (inr h) = h

  quiet : IsClear (HistoryCause state (t.restore text)) (fit_order ++ sizes)
  quiet = (
    λ h. h,
    (
      λ h. h,
      (
        λ h. h,
        (
          λ h. h,
          (
            λ h. h,
            (
              λ h. h,
              (
                λ h. h,
                (
                  λ h. h,
                  (
                    λ h. h,
                    (
                      λ h. h,
                      (
                        λ h. h,
                        (
                          λ h. h,
                          (
                            λ h. h,
                            (
                              λ h. h,
                              (
                                λ h. h,
                                (λ h. h, (λ h. h, (λ h. h, tt))),
                              ),
                            ),
                          ),
                        ),
                      ),
                    ),
                  ),
                ),
              ),
            ),
          ),
        ),
      ),
    ),
  )

  restore_first : (moments : List Moment) → state.history ≡ Some moments → IsFirst Restoring state_order refusals.NotFresh
  restore_first moments kept =
      let before = nothing_before state.db (t.restore text) (λ h. h) (λ h. h) refl refl in
      let none = clear_more (HistoryCause state (t.restore text)) (PlainCause state (t.restore text)) (fit_order ++ sizes) quiet before in
      inr (
        unasked,
        inr (
          unbounded,
          first_right Restoring (fit_order ++ sizes)
              (refusals.LimitRange ∷ refusals.NotFresh ∷ refusals.BadRestore ∷ last_order) refusals.NotFresh none
              (inr (unlimited, inl (inl (of_some state.history (λ all. IsRestore (t.restore text)) moments kept tt), refl))),
        ),
      )

pub restore_refused : (state : State) (moments : List Moment) → state.history ≡ Some moments → (statement : StatementTree) → IsRestore statement
    → IsFirst (StateCause state statement) state_order refusals.NotFresh
restore_refused state moments kept (t.restore text) is = restore_first state text moments kept
restore_refused state moments kept statement is = absurd is

pub kept_out : (state : State) (statement : StatementTree) → HistoryCause state statement refusals.NotFresh
    → IsFirst (StateCause state statement) state_order refusals.NotFresh
kept_out state statement kept = seen state.history refl kept
  where
    seen : (history : Option (List Moment)) → state.history ≡ history → MatchOption history ⊥ (λ moments. IsRestore statement)
        → IsFirst (StateCause state statement) state_order refusals.NotFresh
    seen None is h = absurd h
    seen (Some moments) is h = restore_refused state moments is statement h

-- the graph and the labels stay, and so do names, objects and edges
module _ (db : Database) (reply : Reply) (then : Database) where
  abbrev Stays : Type 0
  Stays = (then.graph ≡ db.graph) × (then.labels ≡ db.labels)

  alike : then ≡ db → Stays
  alike same = (ap (λ (d : Database). d.graph) same, ap (λ (d : Database). d.labels) same)

  stayed : (statement : StatementTree) → (IsChanging statement → ⊥) → (IsRestore statement → ⊥) → databases.Fulfils db statement reply then → Stays
  stayed (t.select query) still stays does = alike does.0
  stayed (t.explain query) still stays does = alike does.0
  stayed t.guide still stays does = alike does.0
  stayed (t.browse start labels) still stays does = alike does.0
  stayed (t.sample start labels count) still stays does = alike does.0
  stayed (t.set_nodes nodes) still stays does = (ap (λ (d : Database). d.graph) does.0.2, ap (λ (d : Database). d.labels) does.0.2)
  stayed (t.set_plan mode) still stays does = (ap (λ (d : Database). d.graph) does.0, ap (λ (d : Database). d.labels) does.0)
  stayed t.dump still stays does = alike does.0
  stayed (t.restore text) still stays does = absurd (stays tt)
  stayed (t.load name literal) still stays does = absurd (still tt)
  stayed (t.bind name path) still stays does = absurd (still tt)
  stayed (t.unname name) still stays does = absurd (still tt)
  stayed (t.assign target value tail) still stays does = absurd (still tt)
  stayed (t.add_new target label literal tail) still stays does = absurd (still tt)
  stayed (t.add_link target label right tail) still stays does = absurd (still tt)
  stayed (t.remove target label right tail) still stays does = absurd (still tt)
  stayed (t.generate seed count) still stays does = absurd (still tt)
  stayed (t.history on) still stays does = absurd does
  stayed (t.select_at given query) still stays does = absurd does
  stayed (t.changes first last) still stays does = absurd does
  stayed t.blocks still stays does = alike does.0
  stayed (t.blocks_of query) still stays does = alike does.0
  stayed (t.watch name query) still stays does = absurd does
  stayed (t.unwatch name) still stays does = absurd does
  stayed (t.show name) still stays does = absurd does

pub still_graph : (db : Database) (statement : StatementTree) → (IsChanging statement → ⊥) → (IsRestore statement → ⊥) → (reply : Reply) (then : Database)
    → Executes db statement reply then → (then.graph ≡ db.graph) × (then.labels ≡ db.labels)
still_graph db statement still stays reply then (inr (refusal, first, (replied, same))) = alike db reply then same
still_graph db statement still stays reply then (inl (clear, does)) = stayed db reply then statement still stays does

pub still_present : (db : Database) (statement : StatementTree) → (IsChanging statement → ⊥) → (IsRestore statement → ⊥) → (reply : Reply) (then : Database)
    → Executes db statement reply then → present then ≡ present db
still_present db statement still stays reply then executed =
    ap (λ (graph : OemGraph). moment_of graph.names graph.objects graph.edges) (still_graph db statement still stays reply then executed).0

-- ---- statements that make changes
-- where nothing refuses it, what is executed is done
done_only : (db : Database) (statement : StatementTree) (reply : Reply) (after : Database) → IsClear (Cause db statement) cause_order
    → Executes db statement reply after → databases.Fulfils db statement reply after
done_only db statement reply after clear (inl (also, does)) = does
done_only db statement reply after clear (inr (refusal, first, (replied, same))) = absurd (first_clear refusal cause_order clear first)
  where
    first_clear : (refusal : Refusal) (order : List Refusal) → IsClear (Cause db statement) order → IsFirst (Cause db statement) order refusal → ⊥
    first_clear refusal [] clear first = first
    first_clear refusal (next ∷ others) clear (inl h) = clear.0 h.0
    first_clear refusal (next ∷ others) clear (inr h) = first_clear refusal others clear.1 h.1

full_then : (state : State) (statement : StatementTree) → MakesChanges statement
    → OfKeptMoments state (WouldBeFullAfter state.db statement)
    → WouldBeFull state statement
full_then state (t.history on) makes full = absurd makes
full_then state statement makes full = full

full_only : (state : State) (statement : StatementTree) → MakesChanges statement → WouldBeFull state statement
    → OfKeptMoments state (WouldBeFullAfter state.db statement)
full_only state (t.history on) makes full = absurd makes
full_only state statement makes full = full

made_goes : (db : Database) (history : Option (List Moment)) (views : List NamedQuery) (statement : StatementTree) → MakesChanges statement
    → (then : Database)
    → AppendsMoment (record { db = db; history = history; views = views }) statement then
    (record { db = then; history = moments_then history (present then); views = views })
made_goes db None views statement makes then = refl
made_goes db (Some moments) views statement makes then = inl (makes, refl)

-- a statement makes one database of another
pub one_made : (db : Database) (statement : StatementTree) (after other : Database) → IsMade db statement after → IsMade db statement other → other ≡ after
one_made db statement after other h k =
    let rows = one_rows db statement k.rows h.rows k.are h.are in
    one_database_after db (effects db statement h.rows) other after
    (subst (λ (l : List (List Oid)). IsAfter db (effects db statement l) other) rows k.is) h.is

module _ (state : State) (statement : StatementTree) (changing : IsChanging statement) (after : Database) (made : IsMade state.db statement after) where
  pub made_performs : (reply : Reply) → Counts after reply → (OfKeptMoments state (λ moments. IsFull (moments ++ present after ∷ [])) → ⊥)
      → Performs state statement reply (record { db = after; history = moments_then state.history (present after); views = state.views })
  made_performs reply counts light =
      inl (
        clear_all state statement (changing_admitted state statement changing) (views_plain state statement (changing_plain statement changing))
            (plain_clear state statement (changing_plain statement changing) made.clear)
            (λ full. light (fuller state.history (full_only state statement made.changing full))),
        plain_does state statement reply after _ (changing_plain statement changing)
            (done_only state.db statement reply after made.clear (made_executes state.db statement after reply made counts))
            (made_goes state.db state.history state.views statement made.changing after),
      )
    where
      fuller : (history : Option (List Moment))
          → MatchOption history ⊥ (WouldBeFullAfter state.db statement)
          → MatchOption history ⊥ (λ moments. IsFull (moments ++ present after ∷ []))
      fuller None h = h
      fuller (Some moments) h = subst (λ (d : Database). IsFull (moments ++ present d ∷ [])) (one_made state.db statement after h.0 made h.1) h.2

  pub made_full : OfKeptMoments state (λ moments. IsFull (moments ++ present after ∷ []))
      → IsFirst (StateCause state statement) state_order refusals.HistoryFull
  made_full full =
      first_full state statement (changing_admitted state statement changing)
      (plain_clear state statement (changing_plain statement changing) made.clear)
      (full_then state statement made.changing (fuller state.history full))
    where
      fuller : (history : Option (List Moment)) → MatchOption history ⊥ (λ moments. IsFull (moments ++ present after ∷ []))
          → MatchOption history ⊥ (WouldBeFullAfter state.db statement)
      fuller None h = h
      fuller (Some moments) h = (after, made, h)

pub changing_told : (state : State) (statement : StatementTree) → IsChanging statement → (told : Option Refusal)
    → IsToldBy (Cause state.db statement) cause_order told → IsToldBy (StateCause state statement) state_order told
changing_told state statement changing told h =
    told_plain state statement (changing_admitted state statement changing) told
    (plain_told state statement (changing_plain statement changing) told h)

pub changing_quiet : (kept : Kept) (statement : StatementTree) → IsChanging statement → CountsNoStep kept statement → ReadsNoEdge kept.state.db statement
changing_quiet kept statement changing quiet =
    quiet_reads kept statement (changing_plain statement changing) (changing_admitted kept.state statement changing).fresh quiet

-- the history is full with one moment more, as its moments tell
full_with : (history : Option KeptHistory) (after : Moment) → IsFullWith history after → MatchOption (kept_moments history) ⊥ (λ moments. IsFull (moments ++ after ∷ []))
full_with None after full = full
full_with (Some kept) after full = full

with_full : (history : Option KeptHistory) (after : Moment) → MatchOption (kept_moments history) ⊥ (λ moments. IsFull (moments ++ after ∷ [])) → IsFullWith history after
with_full None after full = full
with_full (Some kept) after full = full

-- a refusal is the first, or memory is refused
pub full_told : (Cause : Refusal → Type 0) (order : List Refusal) (Full : Type 0) → (Full → IsFirst Cause order refusals.HistoryFull) → (told : Option Refusal)
    → (told ≡ None) ⊎ ((told ≡ Some refusals.HistoryFull) × Full) → IsToldBy Cause order told
full_told Cause order Full first told (inl none) = subst (IsToldBy Cause order) (sym none) tt
full_told Cause order Full first told (inr (is, full)) = subst (IsToldBy Cause order) (sym is) (first full)

module _ (before : Database) (history : Option KeptHistory) (views : List NamedQuery) (statement : StatementTree) (changing : IsChanging statement)
    (after : Database) (made : IsMade before statement after) where
  abbrev old : State
  old = record { db = before; history = kept_moments history; views = views }

  pub change_done : (reply : Reply) (new : State) → new.db ≡ after → new.history ≡ moments_then (kept_moments history) (present after)
      → new.views ≡ views → (IsFullWith history (present after) → ⊥) → Counts new.db reply → Performs old statement reply new
  change_done reply new db moments same_views light counts =
      let new_is : record { db = after; history = moments_then (kept_moments history) (present after); views = views } ≡ new =
      λ i. let same : State = record { db = (sym db) i; history = (sym moments) i; views = (sym same_views) i } in same in
      subst (Performs old statement reply) new_is
      (made_performs old statement changing after made reply (subst (λ (d : Database). Counts d reply) db counts)
      (λ full. light (with_full history (present after) full)))

  pub change_refused : (stop : Stop) → (told stop ≡ None) ⊎ ((told stop ≡ Some refusals.HistoryFull) × IsFullWith history (present after))
      → IsToldBy (StateCause old statement) state_order (told stop)
  change_refused stop h =
      full_told (StateCause old statement) state_order (IsFullWith history (present after))
      (λ full. made_full old statement changing after made (full_with history (present after) full)) (told stop) h

-- ---- a history is kept, or none
pub keeping_admitted : (state : State) (on : Bool) → IsAdmitted state (t.history on)
keeping_admitted state on = record {
  none = λ h. h.0;
  range = λ h. of_none state.history (λ moments. AsksNoMoment moments (t.history on)) (λ moments beyond. beyond) h;
  fresh = λ h. of_none state.history (λ moments. IsRestore (t.history on)) (λ moments is. is) h;
}

keeping_views : (state : State) (on : Bool) → HasViews state (t.history on)
keeping_views state on = record { few = λ h. h; there = λ h. h }

pub keeping_clear : (state : State) (on : Bool) → IsClear (PlainCause state (t.history on)) cause_order
keeping_clear state on = (
  λ h. h,
  (
    λ h. h,
    (
      λ h. h,
      (
        λ h. h,
        (
          λ h. h,
          (
            λ h. h,
            (
              λ h. h,
              (
                λ h. h,
                (
                  λ h. h,
                  (
                    λ h. h,
                    (
                      λ h. h,
                      (
                        λ h. h,
                        (
                          λ h. h,
                          (
                            λ h. h,
                            (
                              λ h. h,
                              (λ h. h, (λ h. h, (λ h. h, (λ h. h, (λ h. h, (λ h. h, tt)))))),
                            ),
                          ),
                        ),
                      ),
                    ),
                  ),
                ),
              ),
            ),
          ),
        ),
      ),
    ),
  ),
)

module _ (state : State) where
  pub begins : (reply : Reply) → Counts state.db reply → (IsFull (present state.db ∷ []) → ⊥)
      → Performs state (t.history true) reply (record state { history = Some (present state.db ∷ []) })
  begins reply counts light =
      inl (clear_all state (t.history true) (keeping_admitted state true) (keeping_views state true) (keeping_clear state true) light, (counts, refl))

  pub begins_full : IsFull (present state.db ∷ []) → IsFirst (StateCause state (t.history true)) state_order refusals.HistoryFull
  begins_full full = first_full state (t.history true) (keeping_admitted state true) (keeping_clear state true) full

  pub ends : (reply : Reply) → Counts state.db reply → Performs state (t.history false) reply (record state { history = None })
  ends reply counts =
      inl (
        clear_all state (t.history false) (keeping_admitted state false) (keeping_views state false) (keeping_clear state false)
            (λ full. of_none state.history (WouldBeFullAfter state.db (t.history false)) (λ moments found. found.1.changing) full),
        (counts, refl),
      )

-- ---- replies
-- what is replied where work on a statement ends performs it
pub replied : (before after : State) (statement : StatementTree) (done : Result Reply Stop) (result : Result Reply NoMemory) → IsRepliedTo done result
    → IfOk done (λ reply. Performs before statement reply after) → OnErr done (after ≡ before)
    → IfErr done (λ stop. IsToldBy (StateCause before statement) state_order (told stop)) → IfOk result (λ reply. Performs before statement reply after)
replied before after statement (Ok reply) result is performed same refused =
    subst (λ (r : Result Reply NoMemory). IfOk r (λ answer. Performs before statement answer after)) (sym is) performed
replied before after statement (Err (stop.Refused refusal)) result is performed same refused =
    subst (λ (r : Result Reply NoMemory). IfOk r (λ answer. Performs before statement answer after)) (sym is) (inr (refusal, refused, refl, same))
replied before after statement (Err stop.NoMemory) result is performed same refused =
    subst (λ (r : Result Reply NoMemory). IfOk r (λ answer. Performs before statement answer after)) (sym is.1) tt

-- what stays where work ends early stays where it isn't replied
pub replied_same : (done : Result Reply Stop) (result : Result Reply NoMemory) → IsRepliedTo done result → (Holds : Type 0) → OnErr done Holds
    → OnErr result Holds
replied_same (Ok reply) result is Holds h = subst (λ (r : Result Reply NoMemory). OnErr r Holds) (sym is) tt
replied_same (Err (stop.Refused refusal)) result is Holds h = subst (λ (r : Result Reply NoMemory). OnErr r Holds) (sym is) tt
replied_same (Err stop.NoMemory) result is Holds h = subst (λ (r : Result Reply NoMemory). OnErr r Holds) (sym is.1) h

-- what holds anyway holds where work ends with a reply or a refusal, and where it ends early
told_any : (told : Option Refusal) (Holds : Type 0) → Holds → IfSome told (λ refusal. Holds)
told_any None Holds h = tt
told_any (Some refusal) Holds h = h

pub on_reply_any : {T : Type 0} (result : Result T Stop) (Holds : Type 0) → Holds → OnReply result Holds
on_reply_any (Ok value) Holds h = h
on_reply_any (Err ended) Holds h = told_any (told ended) Holds h

-- what holds with a stop holds with one that is told again; and of want of memory nothing is said
told_gives : (told : Option Refusal) (Holds Follows : Type 0) → (Holds → Follows) → IfSome told (λ refusal. Holds) → IfSome told (λ refusal. Follows)
told_gives None Holds Follows gives h = tt
told_gives (Some refusal) Holds Follows gives h = gives h

pub on_reply_again : {T : Type 0} (result : Result T Stop) (first : Stop) → IsErrAnd result (λ stop. stop ≡ first) → (Holds Follows : Type 0)
    → (Holds → Follows) → IfSome (told first) (λ refusal. Holds) → OnReply result Follows
on_reply_again (Ok value) first given Holds Follows gives h = absurd given
on_reply_again (Err ended) first given Holds Follows gives h =
    subst (λ (s : Stop). IfSome (told s) (λ refusal. Follows)) (sym given) (told_gives (told first) Holds Follows gives h)

pub on_reply_none : {T : Type 0} (result : Result T Stop) → IsErrAnd result (λ stop. told stop ≡ None) → (Holds : Type 0) → OnReply result Holds
on_reply_none (Ok value) given Holds = absurd given
on_reply_none (Err ended) given Holds = subst (λ (told : Option Refusal). IfSome told (λ refusal. Holds)) (sym given) tt

pub on_err_any : {T E : Type 0} (result : Result T E) (Holds : Type 0) → Holds → OnErr result Holds
on_err_any (Ok value) Holds h = tt
on_err_any (Err ended) Holds h = h
