-- Definitions that no public contract cites.
pub mod Signatures
pub mod Renumbering
pub mod Levels
