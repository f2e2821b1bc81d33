pub mod MergeLaws
pub mod LineLaws
