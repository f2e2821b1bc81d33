-- The declared types that the definitions of this crate cite.
pub use Rattle.index_traits.specs.declared.entries.ValueEntry.{ValueEntry}
pub use Rattle.lore_base.specs.declared.edges.Oid.{Oid}
pub use Rattle.lore_base.specs.declared.edges.Label.{Label}
pub use Rattle.lore_base.specs.declared.values.Value.{Value}
pub use Rattle.lore_base.specs.declared.values.Value.TheVariants.{Whole, Chars, Flag, Complex}
pub use Rattle.lore_base.specs.declared.operators.Op.{Op}
pub use Rattle.lore_base.specs.declared.operators.Op.TheVariants.{Eq, Ne, Lt, Le, Gt, Ge, Like}
pub use Rattle.value_orders.specs.declared.entry.Entry.{Entry}
pub use Rattle.value_orders.specs.declared.kind.Kind.{Kind}
pub use Rattle.value_orders.specs.declared.kind.Kind.TheVariants.{Wholes, Texts, Flags, Readings, FlagReadings}
