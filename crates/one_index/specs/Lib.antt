pub mod Types
pub mod Blocks
pub mod BlockLaws
pub mod BlockReaches
pub mod inside
