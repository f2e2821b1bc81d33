pub mod Types
pub mod SetSteps
pub mod inside
