pub mod Types
pub mod ProductWalks
pub mod inside
