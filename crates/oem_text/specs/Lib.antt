pub mod Types
pub mod Faults
pub mod Literals
pub mod Layouts
pub mod Parts
pub mod Generated
pub mod inside
