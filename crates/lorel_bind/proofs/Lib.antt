pub mod RootLaws
pub mod LeafLaws
pub mod RunLaws
pub mod SlotLaws
pub mod BindLaws
pub mod TextCauseLaws
pub mod ReadyLaws
