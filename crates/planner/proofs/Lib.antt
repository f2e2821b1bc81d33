pub mod ReadLaws
pub mod ProbeLaws
pub mod StepLaws
pub mod TakenLaws
pub mod CountLaws
pub mod OneLaws
