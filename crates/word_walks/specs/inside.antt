-- Definitions that no public contract cites.
pub mod LookUps
pub mod Levels
