pub mod Types
pub mod Views
pub mod inside
