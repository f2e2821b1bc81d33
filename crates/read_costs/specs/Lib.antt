pub mod Types
pub mod Spent
pub mod ReadCosts
pub mod Concerned
pub mod Work
pub mod Entering
pub mod Laws
