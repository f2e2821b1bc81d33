-- The declared types that the definitions of this crate cite, with their variants, and the limits, under one module.
pub use Rattle.lore_base.specs.declared.edges.Oid.{Oid}
pub use Rattle.lore_base.specs.declared.edges.Label.{Label}
pub use Rattle.lore_base.specs.declared.edges.Edge.{Edge}
pub use Rattle.lore_base.specs.declared.values.Value.{Value}
pub use Rattle.lore_base.specs.declared.values.Value.TheVariants.{Whole, Chars, Flag, Complex}
pub use Rattle.lore_base.specs.declared.modes.Mode.{Mode}
pub use Rattle.lore_base.specs.declared.change_set.Changes.{Changes}
pub use Rattle.lore_base.specs.declared.refusals.Refusal.{Refusal}
pub use Rattle.lore_base.specs.declared.refusals.Refusal.TheVariants as refusals
pub use Rattle.index_traits.specs.declared.entries.ValueEntry.{ValueEntry}
pub use Rattle.one_index.specs.declared.blocks.Block.{Block}
pub use Rattle.lorel_bound.specs.declared.bound.Start.{Start}
pub use Rattle.lorel_bound.specs.declared.bound.Start.TheVariants as starts
pub use Rattle.lorel_bound.specs.declared.cells.Cell.{Cell}
pub use Rattle.lorel_bound.specs.declared.cells.Cell.TheVariants as cells
pub use Rattle.lorel_bound.specs.declared.plans.PlanKind.{PlanKind}
pub use Rattle.lorel_bound.specs.declared.plans.PlanKind.TheVariants as plan_kinds
pub use Rattle.lore_base.specs.declared.limits.TheConstants.{LABELS, NAMES, OBJECTS, EDGES, NEXT_NUMBER, NODES, START_NODES}
pub use Rattle.lore_base.specs.declared.limits.TheConstants.{VIEWS}
pub use Rattle.lore_base.specs.declared.limits.TheConstants.{SAMPLE, SEED, FEWEST_PERSONS, MOST_PERSONS}
pub use Rattle.statements.specs.declared.replies.Reply.{Reply}
pub use Rattle.statements.specs.declared.replies.Reply.TheVariants.{Changed, Rows, Past, PlanShown, Lines, Dump, Refused}
