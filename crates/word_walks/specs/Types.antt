-- The declared types that definitions name.
pub use Rattle.lore_base.specs.declared.edges.Oid.{Oid}
pub use Rattle.lore_base.specs.declared.edges.Label.{Label}
pub use Rattle.lore_base.specs.declared.edges.Edge.{Edge}
pub use Rattle.lore_base.specs.declared.paths.Pattern.{Pattern}
pub use Rattle.lore_base.specs.declared.paths.Pattern.TheVariants.{Plain, Wild}
pub use Rattle.word_walks.specs.declared.only_words.OnlyWord.{OnlyWord}
pub use Rattle.word_walks.specs.declared.only_words.OnlyWord.TheVariants.{Labels, Lacking}
