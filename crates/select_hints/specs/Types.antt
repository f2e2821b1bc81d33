-- The declared types that the definitions of this crate cite, and a limit, under one module.
pub use Rattle.lore_base.specs.declared.edges.Oid.{Oid}
pub use Rattle.lore_base.specs.declared.edges.Label.{Label}
pub use Rattle.lore_base.specs.declared.edges.Edge.{Edge}
pub use Rattle.lore_base.specs.declared.values.Value.{Value}
pub use Rattle.lore_base.specs.declared.limits.TheConstants.{LEAVES}
pub use Rattle.lore_base.specs.declared.operators.Op.{Op}
pub use Rattle.lorel_bound.specs.declared.bound.Start.{Start}
pub use Rattle.lorel_bound.specs.declared.bound.Start.TheVariants as starts
pub use Rattle.lorel_bound.specs.declared.conditions.BoundStart.{BoundStart}
pub use Rattle.lorel_bound.specs.declared.conditions.BoundStart.TheVariants as bound_starts
