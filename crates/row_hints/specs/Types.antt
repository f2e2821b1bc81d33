-- The declared types that definitions name, and a limit.
pub use Rattle.lore_base.specs.declared.edges.Oid.{Oid}
pub use Rattle.lore_base.specs.declared.limits.TheConstants.{RANGES}
pub use Rattle.row_hints.specs.declared.told.Told.{Told}
pub use Rattle.row_hints.specs.declared.told.Told.TheVariants.{Unasked, Nothing, Fits}
