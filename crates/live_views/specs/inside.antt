-- Definitions that no public contract cites.
pub mod Looks
pub mod Touched
