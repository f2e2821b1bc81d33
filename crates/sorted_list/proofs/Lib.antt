pub mod JoinLaws
pub mod ListedLaws
pub mod SingleLaws
