-- Definitions that no public contract cites.
pub mod Finding
pub mod Words
pub mod Showing
