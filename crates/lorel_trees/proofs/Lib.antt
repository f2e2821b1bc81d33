pub mod CopyLaws
pub mod TargetLaws
pub mod AtomLaws
pub mod PathItemLaws
pub mod FormLaws
