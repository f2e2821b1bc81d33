-- Definitions that no public contract cites: what a search for objects goes through.
pub mod Searches
