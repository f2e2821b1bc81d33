pub mod Types
pub mod Indexes
pub mod inside
