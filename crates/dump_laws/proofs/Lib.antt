pub mod FormedLaws
pub mod DerivedLaws
pub mod LineLaws
pub mod TextLaws
pub mod BackLaws
