-- The declared type that sets hold, under one module.
pub use Rattle.lore_base.specs.declared.edges.Oid.{Oid}
