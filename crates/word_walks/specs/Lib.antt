pub mod Types
pub mod WordWalks
pub mod inside
