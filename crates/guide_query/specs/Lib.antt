pub mod Types
pub mod GuideLines
pub mod PathLines
pub mod GuideReaches
pub mod LineLaws
pub mod PathLineLaws
pub mod inside
