use Rattle.std.proofs.Common.{sym, subst}
use Rattle.lore_base.specs.Databases.{OemGraph}
use Rattle.dataguide.specs.Guides.{GuideGraph}
use Rattle.lore_store.specs.declared.indexes.Indexes.{Indexes}
use Rattle.lore_store.specs.Stores.{IsStored, database_of}
use Rattle.lore_store.proofs.store.Store.reserve.Goals as goal

-- what is kept stays, whatever room it has
pub invariant_of-self-2 : goal.invariant_of-self-2
invariant_of-self-2 c =
    let kept : Indexes = record { links = c.reserve_indexes.new.links; values = c.reserve_indexes.new.values } in
    let stored : IsStored (database_of c.self.inside.labels c.self.inside.graph.graph c.self.inside.limit c.self.inside.mode) kept c.self.inside.guide =
    record {
      valid = c.self.invariant.valid;
      indexes = c.reserve_indexes.ensures.same c.self.inside.graph.graph c.self.invariant.indexes;
      guided = c.self.invariant.guided;
    } in
    subst (λ (g : OemGraph). IsStored (database_of c.self.inside.labels g c.self.inside.limit c.self.inside.mode) kept c.make_ready.new.guide)
    (sym c.reserve.ensures.same)
    (subst (λ (u : GuideGraph). IsStored (database_of c.self.inside.labels c.self.inside.graph.graph c.self.inside.limit c.self.inside.mode) kept u)
    (sym c.make_ready.ensures) stored)
