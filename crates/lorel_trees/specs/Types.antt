-- The declared types of the crates below that definitions cite, with their variants, and the limits.
pub use Rattle.lore_base.specs.declared.edges.Oid.{Oid}
pub use Rattle.lore_base.specs.declared.values.Value.{Value}
pub use Rattle.lore_base.specs.declared.values.Value.TheVariants.{Whole, Chars, Flag, Complex}
pub use Rattle.lore_base.specs.declared.modes.Mode.{Mode}
pub use Rattle.lore_base.specs.declared.modes.Mode.TheVariants.{Auto, Top, Bottom, Guided}
pub use Rattle.lore_base.specs.declared.operators.Op.{Op}
pub use Rattle.lore_base.specs.declared.operators.Op.TheVariants.{Eq, Ne, Lt, Le, Gt, Ge, Like}
pub use Rattle.lore_base.specs.declared.paths.Pattern.{Pattern}
pub use Rattle.lore_base.specs.declared.paths.Pattern.TheVariants.{Plain, Wild}
pub use Rattle.lore_base.specs.declared.limits.TheConstants.{WORD_BYTES, NESTING}
pub use Rattle.lorel_tokens.specs.declared.token_types.Kind.{Kind}
pub use Rattle.lorel_tokens.specs.declared.token_types.Sign.{Sign}
