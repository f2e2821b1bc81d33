pub mod SlotLaws
pub mod StageLaws
pub mod HintedLaws
pub mod SomeReadLaws
