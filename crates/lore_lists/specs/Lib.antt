pub mod Bytes
pub mod inside
pub mod Lists
pub mod Causes
pub mod Pieces
