pub mod Types
pub mod Texts
pub mod Deliveries
pub mod inside
