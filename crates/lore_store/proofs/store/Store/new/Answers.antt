use Rattle.lore_store.proofs.NewLaws.{new_indexes, new_stored}
use Rattle.lore_store.proofs.store.Store.new.Goals as goal

pub invariant_of-result : goal.invariant_of-result
invariant_of-result c =
    new_stored _ _ _ _ c.new.ensures c.new-2.ensures (new_indexes _ c.new-3.ensures c.new-4.ensures) c.new-5.ensures.nodes (c.new-5.ensures.guide _)
