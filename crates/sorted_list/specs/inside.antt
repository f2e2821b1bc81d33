-- Definitions that no public contract cites.
pub mod Joined
pub mod Listed
pub mod Single
