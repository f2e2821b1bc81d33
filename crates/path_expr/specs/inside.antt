-- Definitions that no public contract cites.
pub mod Compiled
pub mod Reverses
pub mod Movers
