pub mod Partitions
pub mod Gathered
pub mod Given
pub mod inside
