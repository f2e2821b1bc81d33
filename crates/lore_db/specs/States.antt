-- What a session keeps from one statement to the next, and what one statement answers and leaves of it.
pub use Rattle.kept_history.specs.Kept.{present}
use Rattle.std.specs.Prelude.{◌≡◌, ◌⊎◌, ℕ, ℤ, pos, ◌≤◌, Bool, true, false, List, [], ◌∷◌, ◌++◌, Option, Some, None}
use Rattle.std.specs.Prelude.{MatchOption, Contains, length, slice_get, get_or}
use Rattle.std.specs.Map.{remove_entry}
use Rattle.std.specs.BTreeMap.{insert_entry, is_at}
use Rattle.lore_base.specs.Bytes.{bytes_cmp}
use Rattle.lore_base.specs.Databases.{Database, new_database}
use Rattle.lore_base.specs.Verdicts.{IsFirst, IsClear}
use Rattle.lorel_trees.specs.Trees.{SelectTree, StatementTree, load, bind, unname, assign, add_new, add_link, remove}
use Rattle.lorel_trees.specs.Trees.{select, restore, generate, history, select_at, changes, blocks, blocks_of}
use Rattle.lorel_trees.specs.Trees.{watch, unwatch, show}
use Rattle.lorel_bind.specs.Answers.{IsAnswer}
use Rattle.doem_history.specs.Moments.{Moment, moment_of, IsFull}
use Rattle.statements.specs.Types.{VIEWS, Oid, Value, Cell, Refusal}
use Rattle.lore_db.specs.Types.{Reply, Rows, Past, Lines, Refused}
use Rattle.statements.specs.Types.refusals
use Rattle.statements.specs.Forms.{MakesChanges}
use Rattle.statements.specs.Made.{IsMade}
use Rattle.statements.specs.Pasts.{database_over}
use Rattle.statements.specs.Statements.{Cause, cause_order, Counts}
use Rattle.statements.specs.Statements as databases
use Rattle.statements.specs.Bounds.{ReadsWithinEffects, ReadsToReply}
use Rattle.statements.specs.Uncounted.{ReadsNoEdge, IsPlainSelect}
use Rattle.view_laws.specs.Freshness.{NamedQuery, query_in}
use Rattle.change_lines.specs.Changes.{AreChangeLines}

-- a database, the moments of its history, where one is kept, and the selects that are kept as views, in the order of
-- their names
pub record State : Type 0 where
  pub db : Database
  pub history : Option (List Moment)
  pub views : List NamedQuery

-- all that is kept from one statement to the next: the state; whether the blocks of the database are kept beside it; and the
-- names of the views that are fresh, in their order
pub record Kept : Type 0 where
  pub state : State
  pub blocked : Bool
  pub fresh : List (List ℕ)

abbrev pub new_state : State
new_state = record { db = new_database; history = None; views = [] }

-- Moments that are asked for.

-- a moment of the history, by its number
abbrev pub IsMoment : List Moment → ℤ → ℕ → Moment → Type 0
IsMoment moments given number moment = (given ≡ pos number) × (slice_get moments number ≡ Some moment)

abbrev pub HasMoment : List Moment → ℤ → Type 0
HasMoment moments given = (number : ℕ) × (moment : Moment) × IsMoment moments given number moment

-- two moments, the first not behind the last
pub record AreTwoMoments (moments : List Moment) (first last : ℤ) : Type 0 where
  pub from : ℕ
  pub to : ℕ
  pub before : Moment
  pub after : Moment
  pub first_is : IsMoment moments first from before
  pub last_is : IsMoment moments last to after
  pub order : from ≤ to

-- the database as it was at a moment: its names, objects and edges, with the present labels
abbrev pub database_at : Database → Moment → Database
database_at db moment = database_over db moment.names moment.objects moment.edges

-- this holds of the moments that are kept; of a state without a history nothing does
abbrev pub OfKeptMoments : State → (List Moment → Type 0) → Type 0
OfKeptMoments state Has = MatchOption state.history ⊥ Has

-- Views that are asked for.

-- this holds of the select of the view; of a name that no view has nothing does
abbrev pub OfView : State → List ℕ → (SelectTree → Type 0) → Type 0
OfView state name Has = MatchOption (query_in state.views name) ⊥ Has

-- Why a statement is refused.

-- the statement asks a history
abbrev pub AsksHistory : StatementTree → Type 0
AsksHistory (select_at given query) = Unit {0}
AsksHistory (changes first last) = Unit {0}
AsksHistory statement = ⊥

-- there is no moment of the number that it asks for, or there are no two of its numbers
abbrev pub AsksNoMoment : List Moment → StatementTree → Type 0
AsksNoMoment moments (select_at given query) = ¬ HasMoment moments given
AsksNoMoment moments (changes first last) = ¬ AreTwoMoments moments first last
AsksNoMoment moments statement = ⊥

-- it restores a dump
abbrev pub IsRestore : StatementTree → Type 0
IsRestore (restore text) = Unit {0}
IsRestore statement = ⊥

-- with the moment after what it makes of the database the history is full
abbrev pub WouldBeFullAfter : Database → StatementTree → List Moment → Type 0
WouldBeFullAfter db statement moments =
    (after : Database) × IsMade db statement after × IsFull (moments ++ present after ∷ [])

-- with the moment that it begins a history with, or appends to the one that is kept, the history is full
abbrev pub WouldBeFull : State → StatementTree → Type 0
WouldBeFull state (history true) = IsFull (present state.db ∷ [])
WouldBeFull state statement = OfKeptMoments state (WouldBeFullAfter state.db statement)

-- it keeps a view of a new name, and there are as many as may be kept
abbrev pub IsOneTooMany : State → StatementTree → Type 0
IsOneTooMany state (watch name query) = (query_in state.views name ≡ None) × (VIEWS ≤ length state.views)
IsOneTooMany state statement = ⊥

-- it shows a view, or takes one away, that isn't there
abbrev pub LacksView : State → StatementTree → Type 0
LacksView state (unwatch name) = query_in state.views name ≡ None
LacksView state (show name) = query_in state.views name ≡ None
LacksView state statement = ⊥

-- why what is kept beside the database refuses it: the history, or the views. A database is restored only where no history
-- is kept
abbrev pub HistoryCause : State → StatementTree → Refusal → Type 0
HistoryCause state statement refusals.NoHistory = AsksHistory statement × (state.history ≡ None)
HistoryCause state statement refusals.MomentRange = OfKeptMoments state (λ moments. AsksNoMoment moments statement)
HistoryCause state statement refusals.NotFresh = OfKeptMoments state (λ moments. IsRestore statement)
HistoryCause state statement refusals.HistoryFull = WouldBeFull state statement
HistoryCause state statement refusals.TooManyViews = IsOneTooMany state statement
HistoryCause state statement refusals.UnknownView = LacksView state statement
HistoryCause state statement _ = ⊥

-- why the database of the moment with this number refuses a select
abbrev pub CauseAtMoment : Database → ℤ → SelectTree → Refusal → List Moment → Type 0
CauseAtMoment db given query refusal moments = (number : ℕ) × (moment : Moment)
    × IsMoment moments given number moment × Cause (database_at db moment) (select query) refusal

-- why the database refuses it that it is executed on: the present one, or that of a moment. A view is refused what its
-- select is refused. To keep a history, to tell what differs, and to take a view away, no database refuses
abbrev pub PlainCause : State → StatementTree → Refusal → Type 0
PlainCause state (history on) refusal = ⊥
PlainCause state (changes first last) refusal = ⊥
PlainCause state (select_at given query) refusal = OfKeptMoments state (CauseAtMoment state.db given query refusal)
PlainCause state (watch name query) refusal = Cause state.db (select query) refusal
PlainCause state (unwatch name) refusal = ⊥
PlainCause state (show name) refusal = OfView state name (λ query. Cause state.db (select query) refusal)
PlainCause state statement refusal = Cause state.db statement refusal

-- the cause of each refusal in a state
abbrev pub StateCause : State → StatementTree → Refusal → Type 0
StateCause state statement refusal = HistoryCause state statement refusal ⊎ PlainCause state statement refusal

-- the order in which causes are tried: what asks a history is refused for it before anything else. A history is full, and
-- there is one view too many, only where nothing else refuses
abbrev pub state_order : List Refusal
state_order =
    refusals.NoHistory ∷ refusals.MomentRange
    ∷ (cause_order ++ refusals.HistoryFull ∷ refusals.TooManyViews ∷ refusals.UnknownView ∷ [])

-- What a statement does where nothing refuses it.

-- the rows of a select over the database as it was at a moment
pub record AnswersAt (db : Database) (given : ℤ) (query : SelectTree) (reply : Reply) (moments : List Moment) : Type 0 where
  pub number : ℕ
  pub moment : Moment
  pub is : IsMoment moments given number moment
  pub rows : List (List Cell)
  pub answers : IsAnswer (database_at db moment) query rows
  pub replied : reply ≡ Past number rows

-- the lines of what differs between two moments
pub record TellsChanges (db : Database) (first last : ℤ) (reply : Reply) (moments : List Moment) : Type 0 where
  pub two : AreTwoMoments moments first last
  pub lines : List (List ℕ)
  pub are : AreChangeLines db.labels two.before two.after lines
  pub replied : reply ≡ Lines lines

-- where a history is kept, what makes changes appends the moment after them, also where nothing differs
abbrev pub AppendsMoment : State → StatementTree → Database → State → Type 0
AppendsMoment before statement db after = MatchOption before.history (after ≡ record before { db = db })
    (λ moments. (MakesChanges statement × (after ≡ record before { db = db; history = Some (moments ++ present db ∷ []) }))
    ⊎ ((¬ MakesChanges statement) × (after ≡ record before { db = db })))

-- what a select answers, whose view is shown
abbrev pub AnswersNow : Database → Reply → SelectTree → Type 0
AnswersNow db reply query = (rows : List (List Cell)) × (reply ≡ Rows rows) × IsAnswer db query rows

-- `history on` keeps the present moment alone from then on, and `history off` none. `watch` keeps a select under its name,
-- in place of an older one, and `unwatch` keeps it no longer. What asks a history or a view changes nothing. Any other
-- statement does what it does to the database, and the history goes on
abbrev pub Does : State → StatementTree → Reply → State → Type 0
Does before (history true) reply after =
    Counts before.db reply × (after ≡ record before { history = Some (present before.db ∷ []) })
Does before (history false) reply after = Counts before.db reply × (after ≡ record before { history = None })
Does before (select_at given query) reply after =
    (after ≡ before) × OfKeptMoments before (AnswersAt before.db given query reply)
Does before (changes first last) reply after =
    (after ≡ before) × OfKeptMoments before (TellsChanges before.db first last reply)
Does before (watch name query) reply after =
    Counts before.db reply × (after ≡ record before { views = insert_entry bytes_cmp before.views name query })
Does before (unwatch name) reply after =
    Counts before.db reply × (after ≡ record before { views = remove_entry (is_at (bytes_cmp name)) before.views })
Does before (show name) reply after = (after ≡ before) × OfView before name (AnswersNow before.db reply)
Does before statement reply after =
    (db : Database) × databases.Fulfils before.db statement reply db × AppendsMoment before statement db after

-- One statement.

-- one statement, its reply and the state after it: it does what it is to do where no cause of a refusal applies, and the first
-- that applies refuses it, and nothing changes
abbrev pub Performs : State → StatementTree → Reply → State → Type 0
Performs before statement reply after =
    (IsClear (StateCause before statement) state_order × Does before statement reply after)
    ⊎ ((refusal : Refusal) × IsFirst (StateCause before statement) state_order refusal
    × (reply ≡ Refused refusal) × (after ≡ before))

-- What is shown of a state.

-- the objects of a moment; none where there is no such moment
abbrev pub objects_at : Option (List Moment) → ℕ → List (Oid × Value)
objects_at None number = []
objects_at (Some moments) number = (get_or moments number (moment_of [] [] [])).objects

-- Statements for which no step is counted: `history off`, what differs between moments, a select over a moment that there is
-- none of, a dump to be restored where a history is kept, a view that is fresh or taken away, and those that read no edge of
-- the database. Of a view that is kept, and of any other one that is shown, it is its select that reads
abbrev pub CountsNoStep : Kept → StatementTree → Type 0
CountsNoStep kept (history on) = on ≡ false
CountsNoStep kept (changes first last) = Unit {0}
CountsNoStep kept (select_at given query) =
    MatchOption kept.state.history (Unit {0}) (λ moments. ¬ HasMoment moments given)
CountsNoStep kept (restore text) = MatchOption kept.state.history ⊥ (λ moments. Unit {0})
CountsNoStep kept (watch name query) = ReadsNoEdge kept.state.db (select query)
CountsNoStep kept (unwatch name) = Unit {0}
CountsNoStep kept (show name) = Contains kept.fresh name
    ⊎ MatchOption (query_in kept.state.views name) (Unit {0}) (λ query. ReadsNoEdge kept.state.db (select query))
CountsNoStep kept statement = ReadsNoEdge kept.state.db statement

-- what was read until a load, a name taken away, or generated objects are replied to: as on the database alone, and where the
-- history would be full, no more than within four times the work of their changes
abbrev pub ReadsInState : State → StatementTree → Reply → ℕ → ℕ → Type 0
ReadsInState state statement reply old now =
    ReadsToReply state.db statement reply old now
    ⊎ ((reply ≡ Refused refusals.HistoryFull) × ReadsWithinEffects state.db statement old now)

-- Blocks that are kept beside a state.

-- whether they are after an accepted statement: one that asks for blocks builds them where they aren't, and one that changes
-- or restores a graph takes them away
abbrev pub blocked_by : Bool → StatementTree → Bool
blocked_by before blocks = true
blocked_by before (blocks_of query) = true
blocked_by before (load name literal) = false
blocked_by before (bind name path) = false
blocked_by before (unname name) = false
blocked_by before (assign target value tail) = false
blocked_by before (add_new target label literal tail) = false
blocked_by before (add_link target label right tail) = false
blocked_by before (remove target label right tail) = false
blocked_by before (generate seed count) = false
blocked_by before (restore text) = false
blocked_by before statement = before

-- and after one with this reply
abbrev pub blocked_then : Bool → StatementTree → Reply → Bool
blocked_then before statement (Refused refusal) = before
blocked_then before statement reply = blocked_by before statement

-- they are, and tell all that is asked: their lines, or a select of at most one range, without a condition and words. Then no
-- step is counted
abbrev pub BlocksTellAll : Kept → StatementTree → Type 0
BlocksTellAll kept blocks = kept.blocked ≡ true
BlocksTellAll kept (blocks_of query) = (kept.blocked ≡ true) × IsPlainSelect kept.state.db query
BlocksTellAll kept statement = ⊥
