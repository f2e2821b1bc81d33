-- The declared types of `lore_base`, `doem_facts` and this crate, and the limits of a history, under one module.
pub use Rattle.lore_base.specs.declared.edges.Oid.{Oid}
pub use Rattle.lore_base.specs.declared.edges.Label.{Label}
pub use Rattle.lore_base.specs.declared.edges.Edge.{Edge}
pub use Rattle.lore_base.specs.declared.values.Value.{Value}
pub use Rattle.lore_base.specs.declared.values.Value.TheVariants.{Whole, Chars, Flag, Complex}
pub use Rattle.lore_base.specs.declared.deltas.Delta.{Delta}
pub use Rattle.lore_base.specs.declared.refusals.Refusal.{Refusal}
pub use Rattle.lore_base.specs.declared.refusals.Refusal.TheVariants as refusals
pub use Rattle.lore_base.specs.declared.limits.TheConstants.{MOMENTS, HISTORY_WEIGHT}
pub use Rattle.doem_facts.specs.declared.runs.Run.{Run}
pub use Rattle.doem_facts.specs.declared.runs.TheConstants.{STANDING}
pub use Rattle.doem_history.specs.declared.timeline.Mark.{Mark}
