pub mod Types
pub mod inside
pub mod Graphs
pub mod Plans
