pub mod Types
pub mod Thinned
pub mod Told
pub mod inside
