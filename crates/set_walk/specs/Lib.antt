pub mod Types
pub mod SetPaths
pub mod inside
