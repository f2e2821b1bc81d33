-- Definitions that no public contract cites.
pub mod Labelled
pub mod FoundObjects
pub mod Subjects
pub mod Ready
pub mod Sides
pub mod Early
