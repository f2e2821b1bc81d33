-- Definitions that no public contract cites.
pub mod Arcs
pub mod StateSets
pub mod Products
pub mod Ways
