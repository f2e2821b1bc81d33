pub mod LabelLaws
pub mod TextSetLaws
mod TableLaws
pub mod PlaceLaws
