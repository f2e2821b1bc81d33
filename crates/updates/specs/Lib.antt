pub mod Types
pub mod Faults
pub mod Effects
pub mod Causes
pub mod inside
