-- The declared types that definitions cite, and limits, under one module.
pub use Rattle.lore_base.specs.declared.edges.Oid.{Oid}
pub use Rattle.lore_base.specs.declared.edges.Label.{Label}
pub use Rattle.lore_base.specs.declared.edges.Edge.{Edge}
pub use Rattle.lore_base.specs.declared.values.Value.{Value}
pub use Rattle.lore_base.specs.declared.refusals.Refusal.{Refusal}
pub use Rattle.lore_base.specs.declared.refusals.Refusal.TheVariants as refusals
pub use Rattle.lore_base.specs.declared.limits.TheConstants.{RANGES, ITEMS, LEAVES, NESTING}
pub use Rattle.lorel_bound.specs.declared.bound.Start.{Start}
pub use Rattle.lorel_bound.specs.declared.bound.Start.TheVariants as starts
pub use Rattle.lorel_bound.specs.declared.conditions.BoundStart.{BoundStart}
pub use Rattle.lorel_bound.specs.declared.conditions.BoundStart.TheVariants as bound_starts
pub use Rattle.lorel_bound.specs.declared.bound.CellOf.{CellOf}
pub use Rattle.lorel_bound.specs.declared.bound.CellOf.TheVariants as shown
pub use Rattle.lorel_bound.specs.declared.cells.Cell.{Cell}
pub use Rattle.lorel_bound.specs.declared.cells.Cell.TheVariants as cells
