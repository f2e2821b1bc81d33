pub mod WordLaws
pub mod ReadLaws
pub mod BoundLaws
pub mod FoundLaws
pub mod NoteLaws
pub mod RowLaws
