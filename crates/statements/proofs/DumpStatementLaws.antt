-- Dumps and restores as statements: what refuses them, and how they are executed.
use Rattle.std.proofs.Common.{◌≡◌, ◌⊎◌, inl, inr, ◌++◌, Some, None, Result, Ok, Err, IfOk, refl, sym, subst}
use Rattle.std.specs.Prelude.{IfErr}
use Rattle.lore_base.specs.Databases.{Database, IsRestorable, IsValid, new_database}
use Rattle.lore_base.specs.GuideLimits.{ExceedsNodes, ExceedsCells}
use Rattle.lore_base.specs.Verdicts.{IsClear, IsToldBy}
use Rattle.lore_base.proofs.VerdictLaws.{clear_both}
use Rattle.lorel_trees.specs.declared.dump_trees.DumpTree.{DumpTree}
use Rattle.lorel_trees.specs.Trees as t
use Rattle.lore_base.specs.Restores.{database_from}
use Rattle.dump_text.specs.Restores.{IsDumpOf, IsRestored}
use Rattle.lore_base.specs.declared.restored.Restored.{Restored}
use Rattle.dump_text.proofs.RuleLaws.{one_database}
use Rattle.guide_laws.proofs.LimitLaws.{fitting_passes_none}
use Rattle.statements.specs.Types.{Reply}
use Rattle.statements.specs.Types.refusals
use Rattle.statements.specs.Statements.{IsNoDump, Dumps, Cause, cause_order, Counts, Executes}
use Rattle.lore_store.specs.declared.faults.RestoreFault.{RestoreFault}
use Rattle.lore_store.specs.declared.faults.RestoreFault.TheVariants as faults
use Rattle.lore_store.specs.Faults.{restore_refusal, RestoreCause}
use Rattle.statements.specs.inside.Stages.{fit_order}
use Rattle.statements.specs.Stops.{told}
use Rattle.statements.specs.declared.stops.Stop.{Stop}
use Rattle.statements.proofs.CauseLaws.{sizes, late}
use Rattle.statements.proofs.OrderLaws.{told_right}
use Rattle.statements.proofs.QuietLaws.{nothing_before}

-- ---- texts
-- a text of a database whose guide passes a limit is the dump of no valid one
pub crowded_no_dump : (text : DumpTree) (db : Database) → IsDumpOf text db → IsRestorable db
    → ExceedsNodes db.nodes db.graph.names db.graph.edges ⊎ ExceedsCells db.nodes db.graph.names db.graph.edges → IsNoDump (t.restore text)
crowded_no_dump text db dumped sound passed other too valid =
    let same = one_database text db other dumped too sound valid.restorable in
    fitting_passes_none other.nodes other.graph.names other.graph.edges valid.fits
    (subst (λ (d : Database). ExceedsNodes d.nodes d.graph.names d.graph.edges ⊎ ExceedsCells d.nodes d.graph.names d.graph.edges) same passed)

-- ---- what refuses them
module _ (db : Database) where
  pub dump_clear : IsClear (Cause db t.dump) cause_order
  dump_clear =
      clear_both (Cause db t.dump) (fit_order ++ sizes) late (nothing_before db t.dump (λ h. h) (λ h. h) refl refl)
      (λ h. h, (λ h. h, (λ h. h, tt)))

  pub dumped : (done : Result Reply Stop) → IfOk done (λ reply. Dumps db reply db) → IfOk done (λ reply. Executes db t.dump reply db)
  dumped (Ok reply) h = inl (dump_clear, h)
  dumped (Err stop) h = tt

  pub dumped_told : (done : Result Reply Stop) → IfErr done (λ stop. told stop ≡ None)
      → IfErr done (λ stop. IsToldBy (Cause db t.dump) cause_order (told stop))
  dumped_told (Ok reply) h = tt
  dumped_told (Err stop) h = subst (IsToldBy (Cause db t.dump) cause_order) (sym h) tt

  module _ (text : DumpTree) where
    restore_before : IsClear (Cause db (t.restore text)) (fit_order ++ sizes)
    restore_before = nothing_before db (t.restore text) (λ h. h) (λ h. h) refl refl

    pub restore_clear : db ≡ new_database → (IsNoDump (t.restore text) → ⊥) → IsClear (Cause db (t.restore text)) cause_order
    restore_clear new dumped =
        clear_both (Cause db (t.restore text)) (fit_order ++ sizes) late restore_before (λ h. h, (λ stale. stale new, (dumped, tt)))

    pub no_dump_told : db ≡ new_database → IsNoDump (t.restore text) → IsToldBy (Cause db (t.restore text)) cause_order (Some refusals.BadRestore)
    no_dump_told new none =
        told_right (Cause db (t.restore text)) (fit_order ++ sizes) late (Some refusals.BadRestore) restore_before
        (inr (λ h. h, inr (λ stale. stale new, inl (none, refl))))

    -- ---- what is restored
    module _ (new : db ≡ new_database) (restored : Restored) (is : IsRestored text restored) where
      -- a text whose guide doesn't fit
      pub restore_told : (fault : RestoreFault) → RestoreCause (database_from restored) fault
          → IsToldBy (Cause db (t.restore text)) cause_order (restore_refusal fault)
      restore_told faults.GuideNodes cause =
          no_dump_told new (crowded_no_dump text (database_from restored) is.dumped is.whole.sound (inl cause))
      restore_told faults.GuideCells cause =
          no_dump_told new (crowded_no_dump text (database_from restored) is.dumped is.whole.sound (inr cause))
      restore_told faults.NoMemory cause = tt

      pub restored_executes : (after : Database) (reply : Reply) → after ≡ database_from restored → IsValid (database_from restored)
          → Counts after reply → Executes db (t.restore text) reply after
      restored_executes after reply made valid counted = inl (
        restore_clear new (λ none. none (database_from restored) is.dumped valid),
        (
          subst (λ (d : Database). IsDumpOf text d) (sym made) is.dumped,
          subst (λ (d : Database). IsValid d) (sym made) valid,
          counted,
        ),
      )
