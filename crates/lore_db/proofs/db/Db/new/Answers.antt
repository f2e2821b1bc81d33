use Rattle.std.proofs.Common.{None, sym, ap, subst}
use Rattle.lore_base.specs.Databases.{IsValid}
use Rattle.lore_store.proofs.NewLaws.{new_valid}
use Rattle.view_laws.specs.Freshness.{fresh_of, AreViewsOf}
use Rattle.view_laws.proofs.FreshLaws.{no_views}
use Rattle.lore_db.specs.inside.Kept.{kept_of}
use Rattle.lore_db.proofs.db.Db.new.Goals as goal

pub invariant_of-result : goal.invariant_of-result
invariant_of-result c = record {
  valid = subst IsValid (sym c.new-store.ensures) new_valid;
  last = tt;
  blocked = tt;
  views = subst (AreViewsOf c.new-store.result.db) (sym c.new-views.ensures) (no_views c.new-store.result.db);
}

pub returns-clause-state : goal.returns-clause-state
returns-clause-state c = λ i. (kept_of (c.new-store.ensures i) None (c.new-views.ensures i)).state

pub returns-clause-fresh : goal.returns-clause-fresh
returns-clause-fresh c = ap fresh_of c.new-views.ensures
