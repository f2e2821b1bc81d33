pub mod Types
pub mod inside
pub mod EntryChanges
pub mod Reads
