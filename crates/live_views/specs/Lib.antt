pub mod Types
pub mod Concerns
pub mod Views
pub mod inside
