pub mod Types
pub mod inside
pub mod Faults
pub mod Indexes
pub mod Stores
pub mod Reads
