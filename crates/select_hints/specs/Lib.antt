pub mod Types
pub mod Hints
pub mod inside
