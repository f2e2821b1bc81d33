-- The declared types of `lore_base` and of this crate, and what a history may weigh, under one module.
pub use Rattle.lore_base.specs.declared.edges.Oid.{Oid}
pub use Rattle.lore_base.specs.declared.edges.Edge.{Edge}
pub use Rattle.lore_base.specs.declared.values.Value.{Value}
pub use Rattle.lore_base.specs.declared.values.Value.TheVariants.{Chars}
pub use Rattle.lore_base.specs.declared.limits.TheConstants.{HISTORY_WEIGHT}
pub use Rattle.doem_facts.specs.declared.runs.Run.{Run}
pub use Rattle.doem_facts.specs.declared.runs.TheConstants.{STANDING}
