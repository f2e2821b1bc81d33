-- What is read for a statement that lists its changes unread is within the work of what it changes.
use Rattle.std.proofs.Common.{◌≡◌, ℕ, inl, inr, List, [], Option, Some, None, Result, Ok, Err, IfOk, sym, ap, subst, ◌∙◌}
use Rattle.std.specs.Prelude.{IfErr, IfSome}
use Rattle.std.specs.Result.{IsErrAnd}
use Rattle.lore_base.specs.Databases.{Database}
use Rattle.lore_base.specs.ChangeSets.{AreSame}
use Rattle.lore_base.specs.Types.{NoMemory}
use Rattle.lore_base.specs.Verdicts.{IsToldBy}
use Rattle.lore_base.proofs.VerdictLaws.{first_listed}
use Rattle.oem_changes.proofs.SameLaws.{same-back}
use Rattle.lorel_trees.specs.Trees.{StatementTree, load, unname, generate}
use Rattle.lore_store.specs.Faults.{refusal_of}
use Rattle.lore_store.specs.Reads.{ReadsWithinWork}
use Rattle.lore_store.specs.Stores.{store_order}
use Rattle.lore_store.specs.declared.faults.StoreFault.{StoreFault}
use Rattle.lore_store.specs.declared.faults.StoreFault.TheVariants as faults
use Rattle.lore_store.proofs.SameReadLaws.{reads_within-same}
use Rattle.statements.specs.Types.{Oid, Changes, Refusal, Reply}
use Rattle.statements.specs.Bounds.{ListsUnread, ReadsWithinEffects, ReadsToRefuse, ReadsToReply}
use Rattle.statements.specs.Effects.{AreRowsOf, effects}
use Rattle.statements.specs.Forms.{IsChanging}
use Rattle.statements.specs.Statements.{Counts}
use Rattle.statements.specs.Stops.{told, IsRepliedTo}
use Rattle.statements.specs.inside.Listed.{ListsChanges}
use Rattle.statements.specs.declared.stops.Stop.{Stop}
use Rattle.statements.specs.declared.stops.Stop.TheVariants as stop

-- such a statement can list changes, and is executed over no rows
pub unread_changing : (statement : StatementTree) → ListsUnread statement → IsChanging statement
unread_changing (load name literal) unread = tt
unread_changing (unname name) unread = tt
unread_changing (generate seed count) unread = tt
unread_changing _ unread = absurd unread

no_rows : (db : Database) (statement : StatementTree) (rows : List (List Oid)) → ListsUnread statement → AreRowsOf db statement rows → rows ≡ []
no_rows db (load name literal) rows unread are = are
no_rows db (unname name) rows unread are = are
no_rows db (generate seed count) rows unread are = are
no_rows db _ rows unread are = absurd unread

-- a fault that tells a refusal is no want of memory
none_some : (refusal : Refusal) → None ≡ Some refusal → ⊥
none_some refusal same = cc

no_want : (fault : StoreFault) (refusal : Refusal) → refusal_of fault ≡ Some refusal → fault ≡ faults.NoMemory → ⊥
no_want fault refusal is same = none_some refusal (sym (ap refusal_of same) ∙ is)

module _ (db : Database) (statement : StatementTree) where
  -- ---- where nothing was read, a refusal of any kind is within its bound
  told_unread : (told : Option Refusal) (old now : ℕ) → (ListsUnread statement → now ≡ old)
      → IfSome told (λ refusal. ListsUnread statement → ReadsToRefuse db statement refusal old now)
  told_unread None old now same = tt
  told_unread (Some refusal) old now same = λ unread. inl (same unread)

  pub stops_unread : {T : Type 0} (result : Result T Stop) (old now : ℕ) → (ListsUnread statement → now ≡ old)
      → IfErr result (λ stop. IfSome (told stop) (λ refusal. ListsUnread statement → ReadsToRefuse db statement refusal old now))
  stops_unread (Ok value) old now same = tt
  stops_unread (Err ended) old now same = told_unread (told ended) old now same

  -- ---- where its changes are prepared from `mid` on, and nothing was read before
  module _ (changes : Changes) (lists : ListsChanges db statement changes) (old mid now : ℕ) (same : ListsUnread statement → mid ≡ old) where
    pub effects_within : ReadsWithinWork db.graph changes mid now → ListsUnread statement → ReadsWithinEffects db statement old now
    effects_within reads unread =
        let rows = no_rows db statement lists.rows unread lists.are in
        let alike = subst (λ (r : List (List Oid)). AreSame (effects db statement r) changes) rows lists.same in
        let start = subst (λ (n : ℕ). ReadsWithinWork db.graph changes n now) (same unread) reads in
        reads_within-same changes (effects db statement []) (same-back (effects db statement []) changes alike) db.graph old now start

    module _ (Cause : Refusal → Type 0) (fault : StoreFault) (reads : (fault ≡ faults.NoMemory → ⊥) → ReadsWithinWork db.graph changes mid now) where
      told_within : (told : Option Refusal) → refusal_of fault ≡ told → IsToldBy Cause store_order told
          → IfSome told (λ refusal. ListsUnread statement → ReadsToRefuse db statement refusal old now)
      told_within None is first = tt
      told_within (Some refusal) is first = λ unread.
          inr (first_listed Cause store_order refusal first, effects_within (reads (no_want fault refusal is)) unread)

      pub stops_within : {T : Type 0} (result : Result T Stop) → IsErrAnd result (λ stop. told stop ≡ refusal_of fault)
          → IsToldBy Cause store_order (refusal_of fault)
          → IfErr result (λ stop. IfSome (told stop) (λ refusal. ListsUnread statement → ReadsToRefuse db statement refusal old now))
      stops_within (Ok value) given first = tt
      stops_within (Err ended) given first = told_within (told ended) (sym given) (subst (IsToldBy Cause store_order) (sym given) first)

  module _ (old now : ℕ) where
    -- ---- a stop that is handed on, from the database that is kept
    module _ (kept : Database) (is : kept ≡ db) where
      pub counted_within : (after : Database) (reply : Reply) → Counts after reply → (ListsUnread statement → ReadsWithinEffects kept statement old now)
          → ListsUnread statement → ReadsToReply db statement reply old now
      counted_within after reply counts reads unread =
          subst (λ (r : Reply). ReadsToReply db statement r old now) (sym counts.2)
          (subst (λ (d : Database). ReadsWithinEffects d statement old now) is (reads unread))

    -- ---- replies
    pub replied_within : (done : Result Reply Stop) (result : Result Reply NoMemory) → IsRepliedTo done result
        → IfOk done (λ reply. ListsUnread statement → ReadsToReply db statement reply old now)
        → IfErr done (λ stop. IfSome (told stop) (λ refusal. ListsUnread statement → ReadsToRefuse db statement refusal old now))
        → IfOk result (λ reply. ListsUnread statement → ReadsToReply db statement reply old now)
    replied_within (Ok reply) result is bounded stopped =
        subst (λ (r : Result Reply NoMemory). IfOk r (λ answer. ListsUnread statement → ReadsToReply db statement answer old now)) (sym is) bounded
    replied_within (Err (stop.Refused refusal)) result is bounded stopped =
        subst (λ (r : Result Reply NoMemory). IfOk r (λ answer. ListsUnread statement → ReadsToReply db statement answer old now)) (sym is) stopped
    replied_within (Err stop.NoMemory) result is bounded stopped =
        subst (λ (r : Result Reply NoMemory). IfOk r (λ answer. ListsUnread statement → ReadsToReply db statement answer old now)) (sym is.1) tt

    -- a reply to a statement that lists no changes is within this bound, which says nothing of it
    pub unbounded : {E : Type 0} (result : Result Reply E) → (IsChanging statement → ⊥)
        → IfOk result (λ reply. ListsUnread statement → ReadsToReply db statement reply old now)
    unbounded (Ok reply) not = λ unread. absurd (not (unread_changing statement unread))
    unbounded (Err error) not = tt
