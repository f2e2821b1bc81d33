pub mod ListLaws
pub mod GroupLaws
pub mod FollowLaws
pub mod ArcLaws
pub mod SearchLaws
pub mod TurnLaws
pub mod AcceptLaws
pub mod EndLaws
