pub mod Types
pub mod Ends
pub mod Choices
pub mod Laws
pub mod inside
