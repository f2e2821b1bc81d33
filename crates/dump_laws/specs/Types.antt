-- The declared types that the definitions and proofs of this crate cite, with their variants, under one module.
pub use Rattle.lore_base.specs.declared.edges.Oid.{Oid}
pub use Rattle.lore_base.specs.declared.edges.Edge.{Edge}
pub use Rattle.lore_base.specs.declared.values.Value.{Value}
pub use Rattle.lore_base.specs.declared.values.Value.TheVariants.{Whole, Chars, Flag, Complex}
pub use Rattle.lore_base.specs.declared.modes.Mode.{Mode}
pub use Rattle.lore_base.specs.declared.modes.Mode.TheVariants.{Auto, Top, Bottom, Guided}
pub use Rattle.lorel_tokens.specs.declared.token_types.Kind.{Kind}
pub use Rattle.lorel_tokens.specs.declared.token_types.Kind.TheVariants as kinds
pub use Rattle.lorel_tokens.specs.declared.token_types.Sign.TheVariants as signs
pub use Rattle.lorel_trees.specs.declared.dump_trees.DumpTree.{DumpTree}
