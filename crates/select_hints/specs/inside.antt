-- Definitions that no public contract cites.
pub mod Moves
pub mod Counts
