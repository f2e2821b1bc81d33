-- What the indexes of a graph hold, and what a change takes from them and brings.
use Rattle.std.specs.Prelude.{◌↔◌, Contains}
use Rattle.lore_store.specs.Types.{Edge}
use Rattle.lore_store.specs.declared.indexes.Indexes.{Indexes}
use Rattle.lore_store.specs.declared.indexes.IndexPlan.{IndexPlan}
use Rattle.lore_base.specs.Databases.{OemGraph}
use Rattle.lore_base.specs.Deltas.{IsOnlyIn}
use Rattle.index_traits.specs.Entries.{AreLinks, AreValueEntries}
use Rattle.link_index.specs.Links as links
use Rattle.value_index.specs.Values as values
use Rattle.value_changes.specs.EntryChanges.{State, AreEntryChanges}

-- the indexes hold the graph's link entries and its value entries
pub record AreIndexes (graph : OemGraph) (kept : Indexes) : Type 0 where
  pub links : AreLinks graph.edges kept.links.links
  pub values : AreValueEntries graph.objects graph.edges kept.values.entries

-- the objects and edges of a graph
abbrev pub state_of : OemGraph → State
state_of graph = record { objects = graph.objects; edges = graph.edges }

-- what goes and comes leads from the entries of the one graph to those of the other
pub record AreIndexed (before after : OemGraph) (plan : IndexPlan) : Type 0 where
  pub gone : (edge : Edge) → Contains plan.links.gone edge ↔ IsOnlyIn before.edges after.edges edge
  pub come : (edge : Edge) → Contains plan.links.come edge ↔ IsOnlyIn after.edges before.edges edge
  pub values : AreEntryChanges (state_of before) (state_of after) plan.values.gone plan.values.come

-- the indexes keep the room free that the change needs
pub record HasIndexRoom (kept : Indexes) (plan : IndexPlan) : Type 0 where
  pub links : links.HasRoom kept.links plan.links
  pub values : values.HasRoom kept.values plan.values
