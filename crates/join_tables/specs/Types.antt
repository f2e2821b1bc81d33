-- The declared types that definitions cite, under one module.
pub use Rattle.lore_base.specs.declared.edges.Oid.{Oid}
pub use Rattle.lore_base.specs.declared.edges.Label.{Label}
pub use Rattle.lore_base.specs.declared.edges.Edge.{Edge}
pub use Rattle.lore_base.specs.declared.values.Value.{Value}
pub use Rattle.lore_base.specs.declared.values.Value.TheVariants.{Whole, Chars, Flag, Complex}
pub use Rattle.lore_base.specs.declared.operators.Op.TheVariants.{Eq, Le}
pub use Rattle.index_traits.specs.declared.entries.ValueEntry.{ValueEntry}
