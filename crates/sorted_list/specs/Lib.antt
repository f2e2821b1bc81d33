pub mod inside
pub mod SortedLists
