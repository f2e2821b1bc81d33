-- Definitions that no public contract cites.
pub mod Reader
pub mod Scanning
pub mod Skipping
pub mod Lexing
