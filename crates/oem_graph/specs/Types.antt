-- The declared types of `lore_base` and `edge_lists` with their variants, and the limits, under one module.
pub use Rattle.lore_base.specs.declared.edges.Oid.{Oid}
pub use Rattle.lore_base.specs.declared.edges.Label.{Label}
pub use Rattle.lore_base.specs.declared.edges.Edge.{Edge}
pub use Rattle.lore_base.specs.declared.values.Value.{Value}
pub use Rattle.lore_base.specs.declared.values.Value.TheVariants.{Whole, Chars, Flag, Complex}
pub use Rattle.lore_base.specs.declared.modes.Mode.{Mode}
pub use Rattle.lore_base.specs.declared.modes.Mode.TheVariants.{Auto, Top, Bottom, Guided}
pub use Rattle.lore_base.specs.declared.operators.Op.{Op}
pub use Rattle.lore_base.specs.declared.operators.Op.TheVariants.{Eq, Ne, Lt, Le, Gt, Ge, Like}
pub use Rattle.lore_base.specs.declared.paths.Pattern.{Pattern}
pub use Rattle.lore_base.specs.declared.paths.Pattern.TheVariants.{Plain, Wild}
pub use Rattle.lore_base.specs.declared.change_set.Changes.{Changes}
pub use Rattle.lore_base.specs.declared.deltas.Delta.{Delta}
pub use Rattle.lore_base.specs.declared.refusals.Refusal.{Refusal}
pub use Rattle.lore_base.specs.declared.refusals.Refusal.TheVariants as refusals
pub use Rattle.lore_base.specs.declared.refusals.Refusal.TheVariants.{BadToken, RealRefused, NumberRange}
pub use Rattle.lore_base.specs.declared.refusals.Refusal.TheVariants.{TextTooLong, Syntax, Unfinished}
pub use Rattle.lore_base.specs.declared.refusals.Refusal.TheVariants.{UnknownName, UnknownVariable}
pub use Rattle.lore_base.specs.declared.refusals.Refusal.TheVariants.{DuplicateVariable, TooManyRanges}
pub use Rattle.lore_base.specs.declared.refusals.Refusal.TheVariants.{DuplicateLocal, UndefinedLocal}
pub use Rattle.lore_base.specs.declared.refusals.Refusal.TheVariants.{TooManyRows, NotOne, AtomicParent}
pub use Rattle.lore_base.specs.declared.refusals.Refusal.TheVariants.{HasChildren, OidsSpent, TooManyLabels}
pub use Rattle.lore_base.specs.declared.refusals.Refusal.TheVariants.{TooManyNames, TooManyObjects}
pub use Rattle.lore_base.specs.declared.refusals.Refusal.TheVariants.{TooManyEdges, GuideNodes, LimitRange}
pub use Rattle.lore_base.specs.declared.refusals.Refusal.TheVariants.{NotFresh, BadRestore}
pub use Rattle.lore_base.specs.declared.limits.TheConstants.{TEXT_BYTES, WORD_BYTES, OBJECTS, EDGES}
pub use Rattle.lore_base.specs.declared.limits.TheConstants.{NEXT_NUMBER, NODES, NESTING, LEAVES, CHUNK_BYTES}
pub use Rattle.lore_base.specs.declared.limits.TheConstants.{SCRIPT_BYTES}
pub use Rattle.edge_lists.specs.declared.sides.Side.{Side}
pub use Rattle.edge_lists.specs.declared.sides.Side.TheVariants.{Out, In}
pub use Rattle.edge_lists.specs.declared.records.EdgeRecord.{EdgeRecord}
pub use Rattle.edge_lists.specs.declared.objects.ObjectRecord.{ObjectRecord}
