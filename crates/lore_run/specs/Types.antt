-- The declared types that the definitions of this crate cite, with their variants, and the limits, under one module.
pub use Rattle.lore_base.specs.declared.edges.Oid.{Oid}
pub use Rattle.lorel_bound.specs.declared.cells.Cell.{Cell}
pub use Rattle.lore_base.specs.declared.values.Value.{Value}
pub use Rattle.lore_base.specs.declared.refusals.Refusal.{Refusal}
pub use Rattle.lore_base.specs.declared.refusals.Refusal.TheVariants.{BadToken, RealRefused, NumberRange, TextTooLong, Syntax, Unfinished}
pub use Rattle.lore_base.specs.declared.limits.TheConstants.{CHUNK_BYTES, SCRIPT_BYTES}
pub use Rattle.statements.specs.declared.replies.Reply.{Reply}
pub use Rattle.statements.specs.declared.replies.Reply.TheVariants.{Changed, Rows, Past, PlanShown, Lines, Dump, Refused}
