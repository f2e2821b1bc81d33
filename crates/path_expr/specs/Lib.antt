pub mod Types
pub mod Machines
pub mod inside
