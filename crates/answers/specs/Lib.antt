pub mod Types
pub mod Asked
pub mod inside
