use Rattle.lore_store.proofs.NewLaws.{new_indexes}
use Rattle.lore_store.proofs.indexes.built_indexes.Goals as goal

pub fill-requires-clause-kept : goal.fill-requires-clause-kept
fill-requires-clause-kept g c = new_indexes _ c.new-links.ensures c.new-values.ensures
