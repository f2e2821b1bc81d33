-- The declared types that the definitions of this crate cite, with their variants, under one module.
pub use Rattle.lore_base.specs.declared.edges.Oid.{Oid}
pub use Rattle.lore_base.specs.declared.edges.Label.{Label}
pub use Rattle.lore_base.specs.declared.values.Value.{Value}
pub use Rattle.lore_base.specs.declared.refusals.Refusal.{Refusal}
pub use Rattle.lorel_bound.specs.declared.cells.Cell.{Cell}
pub use Rattle.lorel_bound.specs.declared.cells.Cell.TheVariants as cells
pub use Rattle.lorel_bound.specs.declared.plans.PlanKind.{PlanKind}
pub use Rattle.lorel_bound.specs.declared.plans.PlanKind.TheVariants as plan_kinds
