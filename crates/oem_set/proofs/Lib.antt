pub mod AppendLaws
pub mod MemberSearch
