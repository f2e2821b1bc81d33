use Rattle.std.proofs.Common.{sym, subst}
use Rattle.std.specs.Prelude.{Contains}
use Rattle.lore_base.specs.Databases.{OemGraph}
use Rattle.lore_db.specs.States.{Kept}
use Rattle.lore_db.proofs.db.Db.value.Goals as goal

pub returns-clause-only : goal.returns-clause-only
returns-clause-only c value live =
    c.value_of.ensures.only value
    (subst (λ (g : OemGraph). Contains g.objects (c.args.oid, value)) (sym c.graph.ensures.graph)
    (subst (λ (kept : Kept). Contains kept.state.db.graph.objects (c.args.oid, value)) (sym c.self.view_is) live))
