pub mod Types
pub mod Faults
pub mod Dumps
pub mod Restores
pub mod Rules
pub mod Laws
pub mod inside
