-- Definitions that no public contract cites.
pub mod Probes
pub mod Stepping
