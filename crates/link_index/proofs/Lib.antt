pub mod LinkLaws
pub mod RecordLaws
pub mod HeadLaws
pub mod DropLaws
pub mod PutLaws
pub mod RunLaws
pub mod CommitLaws
pub mod SampleLaws
