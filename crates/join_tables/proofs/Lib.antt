pub mod NumberLaws
pub mod LeadingLaws
pub mod RunLaws
pub mod TableLaws
