pub mod ListedLaws
pub mod MatchedLaws
pub mod ComparedLaws
pub mod BoundLaws
