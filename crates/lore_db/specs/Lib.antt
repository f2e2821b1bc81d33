pub mod Types
pub mod States
pub mod Freshness
pub mod Codes
pub mod inside
