pub mod BlockLineLaws
