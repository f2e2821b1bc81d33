pub mod SumLaws
pub mod SpentLaws
pub mod WorkLaws
pub mod EnteringLaws
