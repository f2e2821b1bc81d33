pub mod OrderLawsRanges
pub mod DescribeLawsProbe
pub mod DescribeLawsRows
pub mod OrderLaws
pub mod DescribeLaws
pub mod CandidateLaws
