-- The declared types that the definitions of this crate cite, under one module.
pub use Rattle.lore_base.specs.declared.edges.Oid.{Oid}
pub use Rattle.lore_base.specs.declared.edges.Label.{Label}
pub use Rattle.lore_base.specs.declared.edges.Edge.{Edge}
pub use Rattle.lore_base.specs.declared.values.Value.{Value}
pub use Rattle.lore_base.specs.declared.values.Value.TheVariants.{Complex}
pub use Rattle.dataguide.specs.Types.{Node, GuideNode}
pub use Rattle.guide_query.specs.declared.origins.Origin.{Origin}
pub use Rattle.guide_query.specs.declared.origins.Origin.TheVariants.{Unmet, Named, Step}
