pub mod FitLaws
pub mod SlotLaws
pub mod ThinLaws
pub mod ToldLaws
