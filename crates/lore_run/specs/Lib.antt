pub mod Types
pub mod Replies
pub mod Runs
pub mod Reads
pub mod Endings
pub mod inside
