-- Definitions that no public contract cites.
pub mod Naming
pub mod Puts
pub mod Valued
pub mod Ranks
pub mod Slots
