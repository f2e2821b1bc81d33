-- Definitions that no public contract cites.
pub mod Numbers
pub mod Leading
pub mod Runs
