pub mod Types
pub mod Steps
pub mod Orders
pub mod Laws
