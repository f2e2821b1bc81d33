-- The declared types that the definitions of this crate cite, with their variants and the limits.
pub use Rattle.lore_base.specs.declared.edges.Edge.{Edge}
pub use Rattle.lore_base.specs.declared.modes.Mode.{Mode}
pub use Rattle.lore_base.specs.declared.modes.Mode.TheVariants.{Auto}
pub use Rattle.lore_base.specs.declared.change_set.Changes.{Changes}
pub use Rattle.lore_base.specs.declared.refusals.Refusal.{Refusal}
pub use Rattle.lore_base.specs.declared.refusals.Refusal.TheVariants as refusals
pub use Rattle.lore_base.specs.declared.limits.TheConstants.{NODES, START_NODES, NAMES, OBJECTS, EDGES}
