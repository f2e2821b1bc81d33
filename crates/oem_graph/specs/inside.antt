-- Definitions that no public contract cites.
pub mod Linked
pub mod Planned
pub mod Samples
