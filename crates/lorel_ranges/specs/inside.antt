-- Definitions that no public contract cites: scopes that grow, path variables, tests of equality, the order of ranges,
-- how they are found, made and marked, and fusing in one pass.
pub mod Scopes
pub mod Equality
pub mod Orders
pub mod Fusing
pub mod Indexes
pub mod SelectRanges
pub mod Joins
