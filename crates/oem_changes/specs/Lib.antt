pub mod Types
pub mod Growth
pub mod Laws
