pub mod Links
pub mod Slots
