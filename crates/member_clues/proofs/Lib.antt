pub mod MadeLaws
pub mod TurnedLaws
