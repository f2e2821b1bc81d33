-- Definitions that no public contract cites.
pub mod Fitting
pub mod Parts
pub mod Sizes
pub mod Unlinked
pub mod Cuts
