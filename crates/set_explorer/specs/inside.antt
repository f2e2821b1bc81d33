-- Definitions that no public contract cites.
pub mod Entering
pub mod HashLists
pub mod Trails
pub mod Founds
pub mod Gains
pub mod Losses
