-- Definitions that no public contract cites.
pub mod RowTests
pub mod Forms
pub mod Stamps
