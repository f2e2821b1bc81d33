-- The declared types that readers give and take, and limits, under one module.
pub use Rattle.lore_base.specs.declared.edges.Oid.{Oid}
pub use Rattle.lore_base.specs.declared.edges.Label.{Label}
pub use Rattle.lore_base.specs.declared.edges.Edge.{Edge}
pub use Rattle.lore_base.specs.declared.values.Value.{Value}
pub use Rattle.lore_base.specs.declared.values.Value.TheVariants.{Whole, Chars, Complex}
pub use Rattle.lore_base.specs.declared.operators.Op.{Op}
pub use Rattle.lore_base.specs.declared.operators.Op.TheVariants.{Eq, Ne, Lt, Le, Gt, Ge, Like}
pub use Rattle.index_traits.specs.declared.entries.ValueEntry.{ValueEntry}
pub use Rattle.lore_base.specs.declared.limits.TheConstants.{LEAVES, RANGES}
