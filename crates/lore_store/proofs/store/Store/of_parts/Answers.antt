use Rattle.lore_store.proofs.store.Store.of_parts.Goals as goal

pub invariant_of-result : goal.invariant_of-result
invariant_of-result c = c.requires
