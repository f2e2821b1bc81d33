use Rattle.std.proofs.Common.{ap, subst}
use Rattle.view_laws.specs.Freshness.{AreFreshOver}
use Rattle.lore_db.specs.States.{Kept}
use Rattle.lore_db.proofs.db.Db.views.Goals as goal

pub returns-clause-queries : goal.returns-clause-queries
returns-clause-queries c = ap (λ (kept : Kept). kept.state.views) c.self.view_is

pub returns-clause-fresh : goal.returns-clause-fresh
returns-clause-fresh c = ap (λ (kept : Kept). kept.fresh) c.self.view_is

pub returns-clause-rows : goal.returns-clause-rows
returns-clause-rows c =
    subst (λ (kept : Kept). AreFreshOver kept.state.db c.self.inside.views) c.self.view_is c.self.invariant.views.fresh
