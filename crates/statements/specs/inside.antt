-- Definitions that no public contract cites.
pub mod Listed
pub mod Stages
pub mod Starts
pub mod Locals
