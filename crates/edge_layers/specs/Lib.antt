pub mod Types
pub mod Lists
pub mod EdgeTests
pub mod Turned
pub mod Layers
pub mod Overlays
pub mod inside
