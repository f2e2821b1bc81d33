-- Definitions that no public contract cites.
pub mod LinkEdges
pub mod Records
pub mod Heads
pub mod LinkRuns
