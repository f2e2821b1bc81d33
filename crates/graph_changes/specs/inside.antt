-- Definitions that no public contract cites.
pub mod Leaving
pub mod Gaps
pub mod OneMore
