-- What two graphs differ in (Chawathe et al. 1998, deltas).
use Rattle.std.specs.Prelude.{◌↔◌, List, Contains}
use Rattle.lore_base.specs.Types.{Delta}
use Rattle.lore_base.specs.Names.{IsNameTable}
use Rattle.lore_base.specs.Databases.{OemGraph, AreAscendingObjects, AreAscendingEdges}

-- the item is in the first list and not in the second
abbrev pub IsOnlyIn : {X : Type 0} → List X → List X → X → Type 0
IsOnlyIn items others item = Contains items item × (¬ Contains others item)

-- the list has exactly the items that are in the first of two and not in the second
abbrev pub ListsOnlyIn : {X : Type 0} → List X → List X → List X → Type 0
ListsOnlyIn {X} list items others = (item : X) → Contains list item ↔ IsOnlyIn items others item

-- the names, objects and edges that one graph has and the other lacks, each list in order. An object with another value
-- is gone with the one and comes with the other
pub record IsDelta (before after : OemGraph) (delta : Delta) : Type 0 where
  pub names_gone : ListsOnlyIn delta.names_gone before.names after.names
  pub names_come : ListsOnlyIn delta.names_come after.names before.names
  pub objects_gone : ListsOnlyIn delta.objects_gone before.objects after.objects
  pub objects_come : ListsOnlyIn delta.objects_come after.objects before.objects
  pub edges_gone : ListsOnlyIn delta.edges_gone before.edges after.edges
  pub edges_come : ListsOnlyIn delta.edges_come after.edges before.edges
  pub names_ascend : IsNameTable delta.names_gone × IsNameTable delta.names_come
  pub objects_ascend : AreAscendingObjects delta.objects_gone × AreAscendingObjects delta.objects_come
  pub edges_ascend : AreAscendingEdges delta.edges_gone × AreAscendingEdges delta.edges_come
