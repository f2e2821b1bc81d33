pub mod ListLaws
pub mod LineLaws
pub mod ReachLaws
pub mod RuleLaws
pub mod EntryLaws
pub mod OrderLaws
pub mod ToldLaws
