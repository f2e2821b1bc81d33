-- What is read for a statement that lists its changes unread, in a state.
use Rattle.std.proofs.Common.{◌≡◌, ◌⊎◌, ℕ, inl, inr, Option, Some, None, Result, Ok, Err, IfOk, refl, sym, ap, subst}
use Rattle.std.specs.Prelude.{IfErr, IfSome}
use Rattle.std.specs.Result.{IsErrAnd}
use Rattle.std.proofs.lemmas.Option.{same_Some}
use Rattle.lore_base.specs.Databases.{Database}
use Rattle.lore_base.specs.Types.{NoMemory}
use Rattle.lore_base.specs.Verdicts.{IsToldBy}
use Rattle.lorel_trees.specs.Trees.{StatementTree}
use Rattle.statements.specs.Types.{Refusal}
use Rattle.statements.specs.Types.refusals
use Rattle.statements.specs.Bounds.{ListsUnread, ReadsWithinEffects, ReadsToRefuse}
use Rattle.statements.specs.Forms.{IsChanging}
use Rattle.statements.specs.Statements.{Counts}
use Rattle.statements.specs.Stops.{told, OnReply, IsRepliedTo}
use Rattle.statements.specs.declared.stops.Stop.{Stop}
use Rattle.statements.specs.declared.stops.Stop.TheVariants as stop
use Rattle.statements.proofs.BoundLaws.{unread_changing, counted_within}
use Rattle.lore_db.specs.Types.{Reply, Refused}
use Rattle.lore_db.specs.States.{State, Kept, StateCause, state_order, Performs, CountsNoStep, ReadsInState}
use Rattle.lore_db.specs.Freshness.{KeepsFresh}

none_some : (refusal : Refusal) → None ≡ Some refusal → ⊥
none_some refusal same = cc

module _ (state : State) (statement : StatementTree) (old now : ℕ) where
  -- of a reply, and of a refusal that a stop tells, where there is one
  abbrev pub Within : Reply → Type 0
  Within reply = ListsUnread statement → ReadsInState state statement reply old now

  abbrev pub StopsWithin : Stop → Type 0
  StopsWithin ended = IfSome (told ended) (λ refusal. Within (Refused refusal))

  -- what was planned and stopped
  planned_told : (told : Option Refusal) → IfSome told (λ refusal. ListsUnread statement → ReadsToRefuse state.db statement refusal old now)
      → IfSome told (λ refusal. Within (Refused refusal))
  planned_told None h = tt
  planned_told (Some refusal) h = λ unread. inl (h unread)

  pub planned_again : {T : Type 0} (result : Result T Stop) (first : Stop) → IsErrAnd result (λ stop. stop ≡ first)
      → IfSome (told first) (λ refusal. ListsUnread statement → ReadsToRefuse state.db statement refusal old now) → IfErr result StopsWithin
  planned_again (Ok value) first given h = tt
  planned_again (Err ended) first given h = subst StopsWithin (sym given) (planned_told (told first) h)

  -- want of memory tells nothing
  pub none_within : {T : Type 0} (result : Result T Stop) → IsErrAnd result (λ stop. told stop ≡ None) → IfErr result StopsWithin
  none_within (Ok value) given = tt
  none_within (Err ended) given = subst (λ (told : Option Refusal). IfSome told (λ refusal. Within (Refused refusal))) (sym given) tt

  module _ (reads : ListsUnread statement → ReadsWithinEffects state.db statement old now) where
    -- what was made
    pub made_within : (after : Database) (reply : Reply) → Counts after reply → Within reply
    made_within after reply counts = λ unread. inl (counted_within state.db statement old now state.db refl after reply counts reads unread)

    -- or would have made the history full
    full_told : (Full : Type 0) (told : Option Refusal) → (told ≡ None) ⊎ ((told ≡ Some refusals.HistoryFull) × Full)
        → IfSome told (λ refusal. Within (Refused refusal))
    full_told Full None h = tt
    full_told Full (Some refusal) (inl none) = absurd (none_some refusal (sym none))
    full_told Full (Some refusal) (inr h) = λ unread. inr (ap Refused (same_Some refusal refusals.HistoryFull h.0), reads unread)

    pub full_within : (Full : Type 0) {T : Type 0} (result : Result T Stop) (first : Stop) → IsErrAnd result (λ stop. stop ≡ first)
        → (told first ≡ None) ⊎ ((told first ≡ Some refusals.HistoryFull) × Full) → IfErr result StopsWithin
    full_within Full (Ok value) first given h = tt
    full_within Full (Err ended) first given h = subst StopsWithin (sym given) (full_told Full (told first) h)

  -- of another statement nothing is said
  module _ (still : IsChanging statement → ⊥) where
    pub still_within : {E : Type 0} (result : Result Reply E) → IfOk result Within
    still_within (Ok reply) = λ unread. absurd (still (unread_changing statement unread))
    still_within (Err error) = tt

    still_told : (told : Option Refusal) → IfSome told (λ refusal. Within (Refused refusal))
    still_told None = tt
    still_told (Some refusal) = λ unread. absurd (still (unread_changing statement unread))

    pub still_stops : {T : Type 0} (result : Result T Stop) → IfErr result StopsWithin
    still_stops (Ok value) = tt
    still_stops (Err ended) = still_told (told ended)

  -- ---- replies
  pub replied_within : (done : Result Reply Stop) (result : Result Reply NoMemory) → IsRepliedTo done result → IfOk done Within → IfErr done StopsWithin
      → IfOk result Within
  replied_within (Ok reply) result is bounded stopped = subst (λ (r : Result Reply NoMemory). IfOk r Within) (sym is) bounded
  replied_within (Err (stop.Refused refusal)) result is bounded stopped = subst (λ (r : Result Reply NoMemory). IfOk r Within) (sym is) stopped
  replied_within (Err stop.NoMemory) result is bounded stopped = subst (λ (r : Result Reply NoMemory). IfOk r Within) (sym is.1) tt

-- what work on a statement ends with, over what is kept before it and after it, where so much was read
pub record IsDone (before after : Kept) (statement : StatementTree) (old now : ℕ) (result : Result Reply Stop) : Type 0 where
  pub ok : IfOk result (λ reply. Performs before.state statement reply after.state)
  pub fresh : IfOk result (λ reply. KeepsFresh before statement reply after)
  pub refused : IfErr result (λ stop. IsToldBy (StateCause before.state statement) state_order (told stop))
  pub uncounted : OnReply result (CountsNoStep before statement → now ≡ old)
  pub bounded : IfOk result (Within before.state statement old now)
  pub stopped : IfErr result (StopsWithin before.state statement old now)
