pub mod NearLaws
pub mod LinkLaws
pub mod AheadLaws
pub mod SlotLaws
