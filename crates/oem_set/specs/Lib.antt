pub mod Types
pub mod Sets
