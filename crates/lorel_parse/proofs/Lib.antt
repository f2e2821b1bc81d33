pub mod TargetLaws
pub mod DumpLaws
pub mod HistoryLaws
pub mod StatementLaws
