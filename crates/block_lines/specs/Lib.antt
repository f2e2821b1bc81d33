pub mod BlockLines
pub mod LineLaws
