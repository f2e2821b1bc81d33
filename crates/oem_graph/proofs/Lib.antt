pub mod AfterLaws
pub mod CommitLaws
pub mod GraphLaws
pub mod ReadLaws
pub mod ChangeLaws
pub mod PlanLaws
pub mod SampleLaws
pub mod ObjectLaws
