pub mod MapLaws
pub mod GatherLaws
pub mod BlockLaws
pub mod SignatureLaws
pub mod RenumberLaws
pub mod RefineLaws
pub mod LevelLaws
