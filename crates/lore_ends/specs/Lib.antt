pub mod MemoryEnds
pub mod Outcomes
