pub mod Types
pub mod inside
pub mod Links
