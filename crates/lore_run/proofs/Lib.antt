pub mod ReplyLaws
pub mod LimitLaws
pub mod RunLaws
pub mod EndLaws
pub mod ReadLaws
pub mod PieceLaws
pub mod RespondLaws
