pub mod ListedLaws
pub mod CutLaws
pub mod DoubtLaws
pub mod HeldLaws
pub mod OldLaws
pub mod LowerParentLaws
pub mod SearchLaws
