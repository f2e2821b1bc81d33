-- Definitions that no public contract cites.
pub mod Tallies
pub mod Marking
pub mod Recounting
pub mod Hastening
pub mod Listed
