-- Plans that fit the indexes that they are made for.
use Rattle.std.specs.Prelude.{All, Contains}
use Rattle.lore_store.specs.declared.indexes.Indexes.{Indexes}
use Rattle.lore_store.specs.declared.indexes.IndexPlan.{IndexPlan}
use Rattle.value_index.specs.Values.{FitsEntries}

-- links that go are kept and those that come are not, and the change fits the value entries that are kept
pub record FitsIndexes (kept : Indexes) (plan : IndexPlan) : Type 0 where
  pub gone : All (Contains kept.links.links) plan.links.gone
  pub come : All (λ edge. ¬ Contains kept.links.links edge) plan.links.come
  pub values : FitsEntries kept.values.entries plan.values.gone plan.values.come
