-- Definitions that no public contract cites.
pub mod Arcs
pub mod Buckets
