-- The declared types of a guide and what it is built of, under one module.
pub use Rattle.lore_base.specs.declared.edges.Oid.{Oid}
pub use Rattle.lore_base.specs.declared.edges.Label.{Label}
pub use Rattle.lore_base.specs.declared.edges.Edge.{Edge}
pub use Rattle.set_explorer.specs.declared.nodes.Node.{Node}
pub use Rattle.set_explorer.specs.declared.nodes.GuideNode.{GuideNode}
pub use Rattle.set_explorer.specs.declared.planned_nodes.Origin.{Origin}
pub use Rattle.set_explorer.specs.declared.planned_nodes.Origin.TheVariants.{Kept, Fresh}
pub use Rattle.set_explorer.specs.declared.planned_nodes.DeltaNode.{DeltaNode}
pub use Rattle.set_explorer.specs.declared.faults.GuideFault.{GuideFault}
pub use Rattle.set_explorer.specs.declared.faults.GuideFault.TheVariants as faults
pub use Rattle.set_explorer.specs.declared.faults.GuideFault.TheVariants.{Nodes, Cells, NoMemory}
