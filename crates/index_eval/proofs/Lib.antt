pub mod ClueLaws
pub mod EndLaws
pub mod ListedLaws
pub mod SplitLaws
pub mod TestLaws
