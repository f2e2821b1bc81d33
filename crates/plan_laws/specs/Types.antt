-- The declared types that definitions cite, and limits, under one module.
pub use Rattle.lore_base.specs.declared.edges.Oid.{Oid}
pub use Rattle.lore_base.specs.declared.edges.Label.{Label}
pub use Rattle.lore_base.specs.declared.edges.Edge.{Edge}
pub use Rattle.lore_base.specs.declared.values.Value.{Value}
pub use Rattle.lore_base.specs.declared.values.Value.TheVariants.{Complex}
pub use Rattle.lore_base.specs.declared.limits.TheConstants.{RANGES, LEAVES}
pub use Rattle.lore_base.specs.declared.operators.Op.{Op}
pub use Rattle.index_traits.specs.declared.entries.ValueEntry.{ValueEntry}
pub use Rattle.lorel_bound.specs.declared.bound.Start.{Start}
pub use Rattle.lorel_bound.specs.declared.bound.Start.TheVariants as starts
pub use Rattle.lorel_bound.specs.declared.plans.PlanKind.{PlanKind}
pub use Rattle.lorel_bound.specs.declared.plans.PlanKind.TheVariants as plan_kinds
