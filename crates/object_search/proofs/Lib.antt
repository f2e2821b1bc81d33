pub mod SearchLaws
pub mod CostLaws
pub mod EdgeLaws
pub mod RunLaws
pub mod LowerParentLaws
