-- Definitions that no public contract cites.
pub mod Sets
pub mod Touched
pub mod Pairs
pub mod PairEntries
