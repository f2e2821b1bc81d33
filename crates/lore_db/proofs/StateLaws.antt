-- Causes of refusals in a state: those of the history beside those of the database, in one order.
use Rattle.std.proofs.Common.{◌≡◌, ◌⊎◌, inl, inr, List, [], ◌∷◌, Option, Some, None, refl, sym, subst, ◌∙◌}
use Rattle.std.specs.Prelude.{◌↔◌, MatchOption}
use Rattle.lore_base.specs.Databases.{Database}
use Rattle.lore_base.specs.Verdicts.{IsFirst, IsClear, IsToldBy}
use Rattle.lore_base.proofs.VerdictLaws.{clear_both, first_left, first_right, clear_same, first_same}
use Rattle.lorel_trees.specs.Trees as t
use Rattle.lorel_trees.specs.Trees.{SelectTree, StatementTree}
use Rattle.doem_history.specs.Moments.{Moment}
use Rattle.statements.specs.Types.{Refusal}
use Rattle.statements.specs.Types.refusals
use Rattle.statements.specs.Forms.{MakesChanges, IsChanging, IsOfSession}
use Rattle.statements.specs.Statements.{Cause, cause_order}
use Rattle.view_laws.specs.Freshness.{query_in}
use Rattle.lore_db.specs.States.{IsOneTooMany, LacksView}
use Rattle.lore_db.specs.States.{State, AsksHistory, AsksNoMoment, IsRestore, WouldBeFull}
use Rattle.lore_db.specs.States.{CauseAtMoment, database_at, HistoryCause, PlainCause, StateCause, state_order}

-- ---- causes of two kinds in one order
module _ (Beside Applies : Refusal → Type 0) where
  abbrev Either : Refusal → Type 0
  Either refusal = Beside refusal ⊎ Applies refusal

  neither : (refusal : Refusal) → (Beside refusal → ⊥) → (Applies refusal → ⊥) → Either refusal → ⊥
  neither refusal beside applies (inl h) = beside h
  neither refusal beside applies (inr h) = applies h

  pub clear_more : (order : List Refusal) → IsClear Beside order → IsClear Applies order → IsClear Either order
  clear_more [] beside clear = tt
  clear_more (next ∷ others) beside clear = (neither next beside.0 clear.0, clear_more others beside.1 clear.1)

  first_more : (order : List Refusal) (first : Refusal) → IsClear Beside order → IsFirst Applies order first → IsFirst Either order first
  first_more [] first beside h = h
  first_more (next ∷ others) first beside (inl h) = inl (inr h.0, h.1)
  first_more (next ∷ others) first beside (inr h) = inr (neither next beside.0 h.0, first_more others first beside.1 h.1)

-- ---- moments that are kept, or none
pub of_none : (history : Option (List Moment)) (Has : List Moment → Type 0) → ((moments : List Moment) → Has moments → ⊥)
    → MatchOption history ⊥ Has → ⊥
of_none None Has none h = h
of_none (Some moments) Has none h = none moments h

pub of_some : (history : Option (List Moment)) (Has : List Moment → Type 0) (moments : List Moment) → history ≡ Some moments → Has moments
    → MatchOption history ⊥ Has
of_some history Has moments kept has = subst (λ (o : Option (List Moment)). MatchOption o ⊥ Has) (sym kept) has

pub of_kept : (history : Option (List Moment)) (Has : List Moment → Type 0) (moments : List Moment) → history ≡ Some moments
    → MatchOption history ⊥ Has → Has moments
of_kept history Has moments kept has = subst (λ (o : Option (List Moment)). MatchOption o ⊥ Has) kept has

pub never_both : (history : Option (List Moment)) (moments : List Moment) → history ≡ Some moments → history ≡ None → ⊥
never_both history moments kept none = let both : Some moments ≡ None = sym kept ∙ none in cc

-- ---- a view that is there, or none
pub of_absent : (query : Option SelectTree) (Has : SelectTree → Type 0) → ((own : SelectTree) → Has own → ⊥) → MatchOption query ⊥ Has → ⊥
of_absent None Has none h = h
of_absent (Some own) Has none h = none own h

-- ---- forms
pub makes_changing : (statement : StatementTree) → MakesChanges statement → IsChanging statement
makes_changing (t.generate seed count) makes = tt
makes_changing statement makes = makes

unasked : (statement : StatementTree) → (IsOfSession statement → ⊥) → AsksHistory statement → ⊥
unasked (t.select_at given query) plain asks = plain tt
unasked (t.changes first last) plain asks = plain tt
unasked statement plain asks = asks

unbounded : (statement : StatementTree) → (IsOfSession statement → ⊥) → (moments : List Moment) → AsksNoMoment moments statement → ⊥
unbounded (t.select_at given query) plain moments beyond = plain tt
unbounded (t.changes first last) plain moments beyond = plain tt
unbounded statement plain moments beyond = beyond

pub changing_plain : (statement : StatementTree) → IsChanging statement → IsOfSession statement → ⊥
changing_plain (t.history on) changing is = changing
changing_plain (t.select_at given query) changing is = changing
changing_plain (t.changes first last) changing is = changing
changing_plain (t.watch name query) changing is = changing
changing_plain (t.unwatch name) changing is = changing
changing_plain (t.show name) changing is = changing
changing_plain statement changing is = is

changing_stays : (statement : StatementTree) → IsChanging statement → IsRestore statement → ⊥
changing_stays (t.restore text) changing is = changing
changing_stays statement changing is = is

-- a refusal that no database has a cause for, none has in a state
pub plain_never : (state : State) (statement : StatementTree) (refusal : Refusal)
    → ((db : Database) (other : StatementTree) → Cause db other refusal → ⊥) → PlainCause state statement refusal → ⊥
plain_never state (t.history on) refusal never h = h
plain_never state (t.changes first last) refusal never h = h
plain_never state (t.select_at given query) refusal never h =
    of_none state.history (CauseAtMoment state.db given query refusal) (λ moments found. never (database_at state.db found.1) (t.select query) found.3) h
plain_never state (t.watch name query) refusal never h = never state.db (t.select query) h
plain_never state (t.unwatch name) refusal never h = h
plain_never state (t.show name) refusal never h =
    of_absent (query_in state.views name) (λ query. Cause state.db (t.select query) refusal) (λ query has. never state.db (t.select query) has) h
plain_never state statement refusal never h = never state.db statement h

-- a statement on the database alone has the causes that the database has
pub plain_cause : (state : State) (statement : StatementTree) → (IsOfSession statement → ⊥) → (refusal : Refusal)
    → Cause state.db statement refusal ↔ PlainCause state statement refusal
plain_cause state (t.history on) plain refusal = absurd (plain tt)
plain_cause state (t.changes first last) plain refusal = absurd (plain tt)
plain_cause state (t.select_at given query) plain refusal = absurd (plain tt)
plain_cause state (t.watch name query) plain refusal = absurd (plain tt)
plain_cause state (t.unwatch name) plain refusal = absurd (plain tt)
plain_cause state (t.show name) plain refusal = absurd (plain tt)
plain_cause state statement plain refusal = (λ h. h, λ h. h)

-- views have no say in statements on the database alone
plain_few : (state : State) (statement : StatementTree) → (IsOfSession statement → ⊥) → IsOneTooMany state statement → ⊥
plain_few state (t.watch name query) plain many = plain tt
plain_few state statement plain many = many

plain_there : (state : State) (statement : StatementTree) → (IsOfSession statement → ⊥) → LacksView state statement → ⊥
plain_there state (t.unwatch name) plain lacks = plain tt
plain_there state (t.show name) plain lacks = plain tt
plain_there state statement plain lacks = lacks

-- ---- the history has a say in four refusals, and the views have one in two
-- what is tried behind all that a database has causes for
abbrev pub last_order : List Refusal
last_order = refusals.HistoryFull ∷ refusals.TooManyViews ∷ refusals.UnknownView ∷ []

module _ (state : State) (statement : StatementTree) where
  -- three of them are none: a history that is asked is there, with its moments, and a dump is restored where none is kept
  pub record IsAdmitted : Type 0 where
    pub none : HistoryCause state statement refusals.NoHistory → ⊥
    pub range : HistoryCause state statement refusals.MomentRange → ⊥
    pub fresh : HistoryCause state statement refusals.NotFresh → ⊥

  -- the views refuse nothing
  pub record HasViews : Type 0 where
    pub few : IsOneTooMany state statement → ⊥
    pub there : LacksView state statement → ⊥

  beside : (HistoryCause state statement refusals.NotFresh → ⊥) → IsClear (HistoryCause state statement) cause_order
  beside fresh = (
    λ h. h,
    (
      λ h. h,
      (
        λ h. h,
        (
          λ h. h,
          (
            λ h. h,
            (
              λ h. h,
              (
                λ h. h,
                (
                  λ h. h,
                  (
                    λ h. h,
                    (
                      λ h. h,
                      (
                        λ h. h,
                        (
                          λ h. h,
                          (
                            λ h. h,
                            (
                              λ h. h,
                              (
                                λ h. h,
                                (λ h. h, (λ h. h, (λ h. h, (λ h. h, (fresh, (λ h. h, tt)))))),
                              ),
                            ),
                          ),
                        ),
                      ),
                    ),
                  ),
                ),
              ),
            ),
          ),
        ),
      ),
    ),
  )

  abbrev Causes : Refusal → Type 0
  Causes = StateCause state statement

  never : (refusal : Refusal) → (HistoryCause state statement refusal → ⊥)
      → ((db : Database) (other : StatementTree) → Cause db other refusal → ⊥) → Causes refusal → ⊥
  never refusal history none (inl h) = history h
  never refusal history none (inr h) = plain_never state statement refusal none h

  pub no_history : (HistoryCause state statement refusals.NoHistory → ⊥) → Causes refusals.NoHistory → ⊥
  no_history none = never refusals.NoHistory none (λ db other h. h)

  module _ (admitted : IsAdmitted) where
    no_range : Causes refusals.MomentRange → ⊥
    no_range = never refusals.MomentRange admitted.range (λ db other h. h)

    clear_middle : IsClear (PlainCause state statement) cause_order → IsClear Causes cause_order
    clear_middle clear =
        clear_more (HistoryCause state statement) (PlainCause state statement) cause_order (beside admitted.fresh) clear

    no_full : (WouldBeFull state statement → ⊥) → Causes refusals.HistoryFull → ⊥
    no_full light = never refusals.HistoryFull light (λ db other h. h)

    no_many : (IsOneTooMany state statement → ⊥) → Causes refusals.TooManyViews → ⊥
    no_many few = never refusals.TooManyViews few (λ db other h. h)

    pub clear_all : HasViews → IsClear (PlainCause state statement) cause_order → (WouldBeFull state statement → ⊥) → IsClear Causes state_order
    clear_all views clear light = (
      no_history admitted.none,
      (
        no_range,
        clear_both Causes cause_order last_order (clear_middle clear)
            (no_full light, (no_many views.few, (never refusals.UnknownView views.there (λ db other h. h), tt))),
      ),
    )

    first_last : (refusal : Refusal) → IsClear (PlainCause state statement) cause_order → IsFirst Causes last_order refusal
        → IsFirst Causes state_order refusal
    first_last refusal clear first =
        inr (no_history admitted.none, inr (no_range, first_right Causes cause_order last_order refusal (clear_middle clear) first))

    pub first_full : IsClear (PlainCause state statement) cause_order → WouldBeFull state statement
        → IsFirst Causes state_order refusals.HistoryFull
    first_full clear full = first_last refusals.HistoryFull clear (inl (inl full, refl))

    pub first_many : IsClear (PlainCause state statement) cause_order → (WouldBeFull state statement → ⊥) → IsOneTooMany state statement
        → IsFirst Causes state_order refusals.TooManyViews
    first_many clear light many = first_last refusals.TooManyViews clear (inr (no_full light, inl (inl many, refl)))

    pub first_lacking : IsClear (PlainCause state statement) cause_order → (WouldBeFull state statement → ⊥) → (IsOneTooMany state statement → ⊥)
        → LacksView state statement → IsFirst Causes state_order refusals.UnknownView
    first_lacking clear light few lacks =
        first_last refusals.UnknownView clear (inr (no_full light, inr (no_many few, inl (inl lacks, refl))))

    pub first_plain : (refusal : Refusal) → IsFirst (PlainCause state statement) cause_order refusal → IsFirst Causes state_order refusal
    first_plain refusal first = inr (
      no_history admitted.none,
      inr (
        no_range,
        first_left Causes cause_order last_order refusal
            (first_more (HistoryCause state statement) (PlainCause state statement) cause_order refusal (beside admitted.fresh) first),
      ),
    )

    pub told_plain : (told : Option Refusal) → IsToldBy (PlainCause state statement) cause_order told → IsToldBy Causes state_order told
    told_plain None h = tt
    told_plain (Some refusal) h = first_plain refusal h

-- ---- statements on the database alone
module _ (state : State) (statement : StatementTree) (plain : IsOfSession statement → ⊥) where
  pub admitted_plain : (HistoryCause state statement refusals.NotFresh → ⊥) → IsAdmitted state statement
  admitted_plain fresh = record {
    none = λ h. unasked statement plain h.0;
    range = λ h. of_none state.history (λ moments. AsksNoMoment moments statement) (unbounded statement plain) h;
    fresh = fresh;
  }

  pub views_plain : HasViews state statement
  views_plain = record { few = plain_few state statement plain; there = plain_there state statement plain }

  pub plain_clear : IsClear (Cause state.db statement) cause_order → IsClear (PlainCause state statement) cause_order
  plain_clear = clear_same (Cause state.db statement) (PlainCause state statement) (plain_cause state statement plain) cause_order

  pub plain_told : (told : Option Refusal) → IsToldBy (Cause state.db statement) cause_order told
      → IsToldBy (PlainCause state statement) cause_order told
  plain_told None h = tt
  plain_told (Some refusal) h =
      first_same (Cause state.db statement) (PlainCause state statement) (plain_cause state statement plain) cause_order refusal h

pub changing_admitted : (state : State) (statement : StatementTree) → IsChanging statement → IsAdmitted state statement
changing_admitted state statement changing =
    admitted_plain state statement (changing_plain statement changing)
    (λ h. of_none state.history (λ moments. IsRestore statement) (λ moments is. changing_stays statement changing is) h)
