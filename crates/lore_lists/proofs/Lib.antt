pub mod ListLaws
pub mod PutLaws
pub mod MemberLaws
pub mod SetLaws
