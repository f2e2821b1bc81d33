-- Definitions that no public contract cites.
pub use Rattle.set_explorer.specs.inside.Trails
pub mod NodeTables
pub mod Fills
