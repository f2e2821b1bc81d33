-- The declared types that definitions and proofs cite, with their variants, under one module.
pub use Rattle.lore_base.specs.declared.values.Value.{Value}
pub use Rattle.lore_base.specs.declared.values.Value.TheVariants.{Whole, Chars, Flag, Complex}
pub use Rattle.lore_base.specs.declared.operators.Op.{Op}
pub use Rattle.lore_base.specs.declared.operators.Op.TheVariants.{Eq, Ne, Lt, Le, Gt, Ge, Like}
pub use Rattle.lore_base.specs.declared.paths.Pattern.{Pattern}
pub use Rattle.lore_base.specs.declared.paths.Pattern.TheVariants.{Plain, Wild}
pub use Rattle.lore_base.specs.declared.refusals.Refusal.{Refusal}
pub use Rattle.lore_base.specs.declared.refusals.Refusal.TheVariants as refusals
pub use Rattle.lorel_tokens.specs.declared.token_types.Kind.{Kind}
pub use Rattle.lorel_tokens.specs.declared.token_types.Sign.{Sign}
