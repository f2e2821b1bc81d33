-- Definitions that no public contract cites.
pub mod Ready
pub mod Offers
pub mod Narrowing
pub mod Keeping
pub mod Machines
