-- Definitions that no public contract cites.
pub mod Overlaid
pub mod Places
pub mod Chains
