pub mod Types
pub mod Facts
pub mod FactLaws
pub mod Held
