pub mod Types
pub mod TextReadings
pub mod Kinds
pub mod Held
pub mod Entries
pub mod EntryOrder
pub mod Orders
pub mod inside
