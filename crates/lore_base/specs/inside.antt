-- Definitions that no public contract cites.
pub mod Attempts
pub mod NameTables
