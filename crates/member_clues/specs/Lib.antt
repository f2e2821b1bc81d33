pub mod Types
pub mod Asked
pub mod Clues
pub mod inside
