pub mod Types
pub mod Left
pub mod Puts
pub mod Given
pub mod Differing
pub mod Planned
pub mod inside
