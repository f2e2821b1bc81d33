use Rattle.std.proofs.Common.{None, refl, ap, subst}
use Rattle.std.specs.Prelude.{false}
use Rattle.lorel_trees.specs.Trees.{history}
use Rattle.view_laws.specs.Freshness.{queries_of}
use Rattle.lore_db.specs.States.{State, Kept, Performs}
use Rattle.lore_db.specs.Freshness.{KeepsFresh}
use Rattle.lore_db.specs.inside.Kept.{kept_of}
use Rattle.lore_db.proofs.KeptLaws.{same_keeps}
use Rattle.lore_db.proofs.PerformLaws.{ends}
use Rattle.lore_db.proofs.db.Db.end.Goals as goal

pub returns-clause-ok : goal.returns-clause-ok
returns-clause-ok c =
    let db = c.self.inside.store.db in
    let before : State = (kept_of db c.self.inside.history c.self.inside.views).state in
    let after : State = record { db = db; history = None; views = queries_of c.self.inside.views } in
    subst (λ (kept : Kept). Performs kept.state (history false) c.counts.result after) c.self.view_is (ends before c.counts.result c.counts.ensures)

pub returns-clause-fresh : goal.returns-clause-fresh
returns-clause-fresh c =
    let db = c.self.inside.store.db in
    let views = c.self.inside.views in
    subst (λ (kept : Kept). KeepsFresh kept (history false) c.counts.result (kept_of db None views)) c.self.view_is
    (same_keeps db db c.self.inside.history None views (history false) c.counts.result (λ name is. is) refl)

pub returns-clause-blocked : goal.returns-clause-blocked
returns-clause-blocked c = ap (λ (kept : Kept). kept.blocked) c.self.view_is
