-- The declared types that definitions cite, under one module.
pub use Rattle.lore_base.specs.declared.edges.Oid.{Oid}
pub use Rattle.lore_base.specs.declared.edges.Label.{Label}
pub use Rattle.lore_base.specs.declared.modes.Mode.{Mode}
pub use Rattle.lore_base.specs.declared.modes.Mode.TheVariants as modes
pub use Rattle.index_traits.specs.declared.entries.ValueEntry.{ValueEntry}
pub use Rattle.lorel_bound.specs.declared.plans.PlanKind.{PlanKind}
pub use Rattle.lorel_bound.specs.declared.plans.PlanKind.TheVariants as plan_kinds
pub use Rattle.lore_base.specs.declared.values.Value.TheVariants.{Complex}
pub use Rattle.lore_base.specs.declared.paths.Pattern.TheVariants.{Plain}
pub use Rattle.lorel_bound.specs.declared.bound.Start.TheVariants as starts
pub use Rattle.lorel_bound.specs.declared.conditions.BoundStart.TheVariants as bound_starts
