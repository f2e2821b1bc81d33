pub mod PlaceLaws
pub mod PairLaws
pub mod RowLaws
pub mod RunLaws
pub mod ArcLaws
pub mod GroupLaws
pub mod BucketLaws
