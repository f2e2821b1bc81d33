pub mod Types
pub mod Reached
pub mod LowerParents
pub mod EdgeTests
pub mod inside
