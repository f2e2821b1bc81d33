-- Definitions that no public contract cites.
pub mod Places
pub mod Rows
pub mod Kinds
pub mod Linked
pub mod Filled
pub mod Parted
