-- The declared types that the definitions of this crate cite.
pub use Rattle.lore_base.specs.declared.edges.Oid.{Oid}
pub use Rattle.lore_base.specs.declared.edges.Label.{Label}
pub use Rattle.lore_base.specs.declared.edges.Edge.{Edge}
pub use Rattle.lore_base.specs.declared.values.Value.{Value}
pub use Rattle.lore_base.specs.declared.values.Value.TheVariants.{Whole, Chars, Flag, Complex}
pub use Rattle.lore_base.specs.declared.change_set.Changes.{Changes}
pub use Rattle.edge_lists.specs.declared.sides.Side.{Side}
pub use Rattle.edge_lists.specs.declared.sides.Side.TheVariants.{Out, In}
pub use Rattle.edge_lists.specs.declared.records.EdgeRecord.{EdgeRecord}
pub use Rattle.edge_lists.specs.declared.objects.ObjectRecord.{ObjectRecord}
