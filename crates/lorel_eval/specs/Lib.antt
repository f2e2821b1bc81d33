pub mod Types
pub mod Tests
pub mod inside
