pub mod Types
pub mod Tables
pub mod inside
