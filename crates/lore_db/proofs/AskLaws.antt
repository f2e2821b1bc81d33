-- What a history answers that is asked, and what it is refused for.
use Rattle.std.proofs.Common.{◌≡◌, ℕ, ◌≤◌, inl, inr, List, Option, Some, None, refl, sym, ap, subst, ◌∙◌, arith}
use Rattle.std.specs.Prelude.{ℤ, pos, ◌↔◌, Bool, MatchOption}
use Rattle.std.specs.List.{slice_get}
use Rattle.std.proofs.lemmas.Option.{same_Some}
use Rattle.lore_base.specs.Databases.{Database}
use Rattle.lore_base.specs.Verdicts.{IsFirst, IsClear, IsToldBy}
use Rattle.lore_base.proofs.VerdictLaws.{clear_same, first_same}
use Rattle.lorel_trees.specs.Trees as t
use Rattle.lorel_trees.specs.Trees.{SelectTree, StatementTree, select}
use Rattle.doem_history.specs.Moments.{Moment}
use Rattle.doem_history.specs.Histories.{KeptHistory, moment_at, moments_of}
use Rattle.statements.specs.Types.{Oid, Cell, Refusal}
use Rattle.lore_db.specs.Types.{Rows, Past, Lines, Refused}
use Rattle.statements.specs.Types.refusals
use Rattle.statements.specs.Pasts.{database_over}
use Rattle.statements.specs.Statements.{Cause, cause_order, Executes}
use Rattle.change_lines.specs.Changes.{AreChangeLines}
use Rattle.lore_db.specs.States.{State, IsMoment, HasMoment, AreTwoMoments, database_at, AsksNoMoment}
use Rattle.lore_db.specs.States.{CauseAtMoment, IsRestore, AnswersAt, TellsChanges, PlainCause, StateCause, state_order, WouldBeFullAfter, WouldBeFull, Performs}
use Rattle.lore_db.specs.States.{CountsNoStep}
use Rattle.lore_db.proofs.StateLaws.{of_none, of_some, of_kept, never_both, IsAdmitted, HasViews, clear_all, told_plain, no_history}
use Rattle.lore_db.proofs.MomentLaws.{is_moment}

-- a number is that of one moment
pub one_number : (given : ℤ) (number other : ℕ) → given ≡ pos number → given ≡ pos other → number ≡ other
one_number given number other is too = let same : pos number ≡ pos other = sym is ∙ too in cc

pub one_moment : (moments : List Moment) (given : ℤ) (number other : ℕ) (moment another : Moment) → IsMoment moments given number moment
    → IsMoment moments given other another → (number ≡ other) × (moment ≡ another)
one_moment moments given number other moment another h k =
    let same = one_number given number other h.0 k.0 in
    (same, same_Some moment another (sym h.1 ∙ ap (λ (n : ℕ). slice_get moments n) same ∙ k.1))

module _ (state : State) (moments : List Moment) (kept : state.history ≡ Some moments) where
  -- where there are no such moments
  pub asked_beyond : (statement : StatementTree) → AsksNoMoment moments statement
      → IsFirst (StateCause state statement) state_order refusals.MomentRange
  asked_beyond statement beyond =
      inr (
        no_history state statement (λ h. never_both state.history moments kept h.1),
        inl (inl (of_some state.history (λ all. AsksNoMoment all statement) moments kept beyond), refl),
      )

  -- ---- a select over a moment
  module _ (given : ℤ) (query : SelectTree) (number : ℕ) (moment : Moment) (is : IsMoment moments given number moment) where
    abbrev pub asked : StatementTree
    asked = t.select_at given query

    abbrev pub past : Database
    past = database_at state.db moment

    pub at_admitted : IsAdmitted state asked
    at_admitted = record {
      none = λ h. never_both state.history moments kept h.1;
      range = λ h. of_kept state.history (λ all. AsksNoMoment all asked) moments kept h (number, moment, is);
      fresh = λ h. of_none state.history (λ all. IsRestore asked) (λ all restores. restores) h;
    }

    -- views have no say in it
    at_views : HasViews state asked
    at_views = record { few = λ h. h; there = λ h. h }

    pub at_light : WouldBeFull state asked → ⊥
    at_light full = of_none state.history (WouldBeFullAfter state.db asked) (λ all found. found.1.changing) full

    -- it counts steps
    pub at_counts : (blocked : Bool) (fresh : List (List ℕ)) → CountsNoStep (record { state = state; blocked = blocked; fresh = fresh }) asked → ⊥
    at_counts blocked fresh quiet =
        let none : HasMoment moments given → ⊥ =
        subst (λ (o : Option (List Moment)). MatchOption o (Unit {0}) (λ all. HasMoment all given → ⊥)) kept quiet in
        none (number, moment, is)

    -- its causes are those of the database of then
    pub at_cause : (refusal : Refusal) → Cause past (select query) refusal ↔ PlainCause state asked refusal
    at_cause refusal = (
      λ h. of_some state.history (CauseAtMoment state.db given query refusal) moments kept (number, moment, is, h),
      λ h. (
          let found = of_kept state.history (CauseAtMoment state.db given query refusal) moments kept h in
          let same = one_moment moments given found.0 number found.1 moment found.2 is in
          subst (λ (m : Moment). Cause (database_at state.db m) (select query) refusal) same.1 found.3),
    )

    pub at_told : (told : Option Refusal) → IsToldBy (Cause past (select query)) cause_order told → IsToldBy (StateCause state asked) state_order told
    at_told None h = tt
    at_told (Some refusal) h =
        told_plain state asked at_admitted (Some refusal)
        (first_same (Cause past (select query)) (PlainCause state asked) at_cause cause_order refusal h)

    pub at_performs : (rows : List (List Cell)) → Executes past (select query) (Rows rows) past → Performs state asked (Past number rows) state
    at_performs rows (inl (clear, does)) =
        let same = rows_of rows does.1.0 does.1.1 in
        inl (
          clear_all state asked at_admitted at_views (clear_same (Cause past (select query)) (PlainCause state asked) at_cause cause_order clear) at_light,
          (
            refl,
            of_some state.history (AnswersAt state.db given query (Past number rows)) moments kept (record {
              number = number;
              moment = moment;
              is = is;
              rows = does.1.0;
              answers = does.1.2;
              replied = ap (λ (all : List (List Cell)). Past number all) same;
            }),
          ),
        )
      where
        rows_of : (all others : List (List Cell)) → Rows all ≡ Rows others → all ≡ others
        rows_of all others same = cc
    at_performs rows (inr (refusal, first, (replied, same))) = absurd (not_refused rows refusal replied)
      where
        not_refused : (all : List (List Cell)) (refusal : Refusal) → Rows all ≡ Refused refusal → ⊥
        not_refused all refusal same = cc

  -- ---- what differs between two moments
  module _ (first last : ℤ) (two : AreTwoMoments moments first last) where
    abbrev pub telling : StatementTree
    telling = t.changes first last

    pub tells : (lines : List (List ℕ)) → AreChangeLines state.db.labels two.before two.after lines
        → Performs state telling (Lines lines) state
    tells lines are =
        inl (
          clear_all state telling (record {
            none = λ h. never_both state.history moments kept h.1;
            range = λ h. of_kept state.history (λ all. AsksNoMoment all telling) moments kept h two;
            fresh = λ h. of_none state.history (λ all. IsRestore telling) (λ all restores. restores) h;
          }) (record { few = λ h. h; there = λ h. h }) uncaused (λ full. of_none state.history (WouldBeFullAfter state.db telling) (λ all found. found.1.changing) full),
          (refl, of_some state.history (TellsChanges state.db first last (Lines lines)) moments kept (record { two = two; lines = lines; are = are; replied = refl })),
        )
      where
        uncaused : IsClear (PlainCause state telling) cause_order
        uncaused = (
          λ h. h,
          (
            λ h. h,
            (
              λ h. h,
              (
                λ h. h,
                (
                  λ h. h,
                  (
                    λ h. h,
                    (
                      λ h. h,
                      (
                        λ h. h,
                        (
                          λ h. h,
                          (
                            λ h. h,
                            (
                              λ h. h,
                              (
                                λ h. h,
                                (
                                  λ h. h,
                                  (
                                    λ h. h,
                                    (
                                      λ h. h,
                                      (λ h. h, (λ h. h, (λ h. h, (λ h. h, (λ h. h, (λ h. h, tt)))))),
                                    ),
                                  ),
                                ),
                              ),
                            ),
                          ),
                        ),
                      ),
                    ),
                  ),
                ),
              ),
            ),
          ),
        )

-- from what a history answers of two of its moments
pub tells_between : (state : State) (h : KeptHistory) → state.history ≡ Some (moments_of h) → (first last : ℤ) (from to : ℕ) → first ≡ pos from → last ≡ pos to
    → from ≤ to → to ≤ h.last → (lines : List (List ℕ)) → AreChangeLines state.db.labels (moment_at h from) (moment_at h to) lines
    → Performs state (t.changes first last) (Lines lines) state
tells_between state h kept first last from to first_is last_is order within lines are =
    tells state (moments_of h) kept first last (record {
      from = from;
      to = to;
      before = moment_at h from;
      after = moment_at h to;
      first_is = is_moment h first from first_is (omega (arith, order, within));
      last_is = is_moment h last to last_is within;
      order = order;
    }) lines are

-- the database that was searched is that of the moment
pub then_is : (db : Database) (moment view : Moment) (names : List (List ℕ × Oid)) → names ≡ moment.names → view ≡ moment
    → database_over db names view.objects view.edges ≡ database_at db moment
then_is db moment view names names_are view_is = λ i. database_over db (names_are i) (view_is i).objects (view_is i).edges
