pub mod MeaningLaws
pub mod ReadingLaws
pub mod SomeRunLaws
pub mod ParsedLaws
