-- The declared types of `lore_base` that speak of labels, with their variants, under one module.
pub use Rattle.lore_base.specs.declared.edges.Label.{Label}
pub use Rattle.lore_base.specs.declared.paths.Pattern.{Pattern}
pub use Rattle.lore_base.specs.declared.paths.Pattern.TheVariants.{Plain, Wild}
