-- Definitions that no public contract cites.
pub mod Counted
pub mod Matches
pub mod Leaving
pub mod Marks
pub mod Runs
