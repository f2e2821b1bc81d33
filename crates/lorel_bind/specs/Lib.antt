pub mod Types
pub mod Answers
pub mod Faults
pub mod Refusals
pub mod Bindings
pub mod inside
