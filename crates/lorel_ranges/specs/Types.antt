-- The declared types that definitions cite, and the limit of nesting, under one module.
pub use Rattle.lore_base.specs.declared.values.Value.{Value}
pub use Rattle.lore_base.specs.declared.operators.Op.{Op}
pub use Rattle.lore_base.specs.declared.limits.TheConstants.{NESTING}
