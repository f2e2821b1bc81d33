pub mod ChangedEntries
pub mod SortedEntries
